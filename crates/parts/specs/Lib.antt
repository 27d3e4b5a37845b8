-- What is left over of a part.
pub mod LeftOver
