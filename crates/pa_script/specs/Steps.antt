-- Steps in turn.
pub use Rattle.pa_math.specs.Steps.{each}
