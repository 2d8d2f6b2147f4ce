-- The random numbers of the crate below, passed on by name: a seed's generator and a draw's unit. Assumes nothing.
pub use Rattle.rng.specs.Rules.SplitMix.{seeded}
pub use Rattle.rng.specs.Rules.Unit.{unit_of}
