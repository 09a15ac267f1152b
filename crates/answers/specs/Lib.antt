-- The C interface: how a cell comes in, and how a call's answers go out.
pub mod Interface
