-- The plain scorer, and the claim, in the order in which to read them.
-- the plain scorer
pub mod Scorer
-- what a list of calls holds and is lent, and what its replies say
pub mod Items
-- demand 3, clause by clause
pub mod Certificate
