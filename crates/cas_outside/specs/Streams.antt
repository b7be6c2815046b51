-- What contracts see of a source and of a sink.
use Rattle.std.specs.Prelude.{ℕ, List}
use Rattle.std.specs.declared.option.Option.{Option}

-- the bytes that are left, where the source tells them, and how often it failed
pub record SourceView : Type 0 where
  pub left : Option (List ℕ)
  pub faults : ℕ

-- the bytes that were written, where the sink tells them, and how often it failed
pub record SinkView : Type 0 where
  pub held : Option (List ℕ)
  pub faults : ℕ
