-- Which atoms count: Select.
pub mod Selection
