-- Operations with their contracts: what a script line asks, once its names are looked up.
use Rattle.std.specs.Prelude.{List, Bool}
use Rattle.pa_meaning.specs.Rows.{Point}
use Rattle.pa_meaning.specs.Contracts.{Name, Contract}
use Rattle.pa_meaning.specs.Bounds.{Goal}

pub data Question : Type 0 where
  Merging : Contract → Contract → Question
  Testing : Contract → List Name → Point → Question
  Refining : Contract → Contract → Question
  Bounding : Contract → Goal → Bool → Question
  Hiding : Contract → List Name → Question
  Composing : List Contract → List Name → Question
  Dividing : Contract → Contract → Question
