-- What a record brings to a reading.
use Rattle.terms.specs.declared.strategy.Line.{Line}

pub data Brought : Type 0 where
  Opened : Brought
  Found : Line → Brought
  Closed : Brought
