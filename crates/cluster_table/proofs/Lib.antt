-- Laws that belong to no one function: first the table, then what serves the code's steps.
-- parents, degrees and marks are each their own part of the table
pub mod Parts
-- a test over a part of the table
pub mod Lists
-- what one contact writes
pub mod Contacts
-- how many pairs of copies there are
pub mod Pairs
-- the loops that open a table
pub mod Fills
-- the test of a table, part by part
pub mod Checks
-- what Row asks of a table, test by test
pub mod RowChecks
-- the steps of `add_contact`
pub mod Steps
-- the fractions of a sound table
pub mod Ratios
