-- The laws of specs/: NumberLaws of numbers, HeadCodeLaws of mark and version, PutLaws of what is put into a lent buffer.
-- ExactReading says how exact readings are made of exact ones, ExactNumbers that fields are read exactly as they are written.
-- That both papers above are read exactly is chained of these laws.
pub mod NumberLaws
pub mod HeadCodeLaws
pub mod ListCodeLaws
pub mod PutLaws
pub mod PartLaws
pub mod ExactReading
pub mod ExactNumbers
