-- The laws of specs/, under its names; Code: what returns of functions cite (Next and Taking of Receiving, Row and RowMessage of Making).
-- Stays is of ends that calls hand on, Made and Delivered of what is made at one end and comes to another, Room of the store.
-- Below lie the laws of ends, and semijoin by its promise alone; answerer, boundary and demands, above, cite these.
pub mod OpeningCodeLaws
pub mod MakingCodeLaws
pub mod NextCodeLaws
pub mod TakingCodeLaws
pub mod ReceivingCodeLaws
pub mod RowCodeLaws
pub mod RowMessageCodeLaws
pub mod MadeLaws
pub mod OpeningLaws
pub mod MakingLaws
pub mod ReceivingLaws
pub mod DeliveredLaws
pub mod StaysLaws
pub mod RoomLaws
