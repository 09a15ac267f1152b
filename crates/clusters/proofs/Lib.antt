-- Laws that belong to no one function: first the table and the graph, then the order rule, last what serves the code's steps.
-- chains of contacts are an equivalence, and one contact more joins two of them
pub mod Chains
-- a table that holds a graph, and the same with one contact more
pub mod Holds
-- how many contacts a graph can have
pub mod Sums
-- an accepted row adds its touches to the graph that a table holds
pub mod Rows
-- a freshly opened table holds the graph with no contact
pub mod Opening
-- a row keeps the table's length
pub mod Lengths
-- the largest set with one root is the largest cluster
pub mod Largest
-- what Row and Close answer on a table that holds a graph
pub mod Held
-- one call: it keeps the table equal to the graph of the accepted rows
pub mod Calls
-- the order rule, and that Close's answer does not depend on the order
pub mod OrderRule
-- two runs worked out: ten calls on four copies, and eighteen at another cutoff
pub mod Examples
-- Open's refusals, test by test
pub mod Refusals
-- Row's refusals: the input's, then the table's
pub mod RowRefusals
-- Close's answer, test by test
pub mod Closes
-- what input has that nothing refuses
pub mod Accepted
-- the loop of a row
pub mod Passes
