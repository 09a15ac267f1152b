-- What program `frame` prints.
pub mod Printed
