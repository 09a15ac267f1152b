-- The starred frames (docs/RULES.md, 'Checked frames').
pub mod Starred
