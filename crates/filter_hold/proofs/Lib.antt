pub mod TbfLaws
pub mod TbfOrder
