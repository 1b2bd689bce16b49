-- The demands as statements. DemandOne, and DemandOneCalls of boundary's calls: what a call may refuse by, and that a refusal leaves everything.
-- DemandTwo: legal, taken, planned, kept, answered. Link: stations and their link; DemandThree: each of their histories; Orderly: something happens.
-- Words has the names that these are made of. Below lie all libraries, and nothing lies above.
pub mod Words
pub mod DemandOne
pub mod DemandOneCalls
pub mod DemandTwo
pub mod Link
pub mod DemandThree
pub mod Orderly
