-- Words, numbers and floats as bytes.
pub mod Text
