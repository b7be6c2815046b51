-- The end of a lawful run and an empty region are lawful starts.
use Rattle.std.proofs.Common.{◌≡◌, ℕ, ◌+◌, ◌≤◌, List, inl, inr, refl, arith, min}
use Rattle.cas_model.specs.Start.{IsLawfulStart, IsNamed}
use Rattle.cas_model.specs.State.{State}
use Rattle.cas_model.specs.Tables.{Tables, cell_of, empty_start}
use Rattle.cas_history.specs.declared.event.Event.{Event}
use Rattle.cas_history.specs.End.{ended}
use Rattle.cas_history.specs.Lawful.{IsLawfulRun}
use Rattle.cas_history.specs.Run.{tables}
use Rattle.cas_history.proofs.Grown.{Grows, names-last, size-same}
use Rattle.cas_history.proofs.Blocks.{given-least, named-fits, named-apart}
use Rattle.cas_history.proofs.Placed.{IsPlaced, placed-run, lawful-start}
use Rattle.cas_history.proofs.Sound.{IsSound, sound-run}

grows-ended : (s : Tables) → Grows s (ended s)
grows-ended s = record { size = refl; records = λ n r h. h; places = λ space digest p h. h; cells = λ n h. refl; blocks = λ n words h. h }

min-least : (a b c : ℕ) → c ≤ a → c ≤ b → c ≤ min a b
min-least a b c one two = omega arith

min-second : (a b : ℕ) → min a b ≤ b
min-second a b = omega arith

pub end-start : (start s : Tables) → IsLawfulStart start → IsPlaced start s → IsSound s → s.size ≡ start.size → IsLawfulStart (ended s)
end-start start s lawful placed sound same = record {
  least = omega (arith, same, lawful.least);
  most = omega (arith, same, lawful.most);
  counter_least = let least = given-least start s lawful placed in min-least s.counter s.size 520 (omega (arith, least, lawful.counter_least, placed.within_counter)) (omega (arith, least, lawful.counter_least, placed.within_size));
  counter_most = min-second s.counter s.size;
  gave = refl;
  tied = record { to = sound.tied.to; back = sound.tied.back };
  rooted = sound.rooted;
  names = λ n r is some. names-last s (ended s) (grows-ended s) r.space r.digest (cell_of s.filled n) (sound.names n r is some);
  used = λ n ws is. let there = placed.used n ws is in (there.0, record { found = there.1.found; is = there.1.is; in_space = there.1.in_space }, there.2);
  within = λ n w named.
      let there = named-fits start s lawful placed n w named in
      (there.0, min-least s.counter s.size (n + w) (omega (arith, there.1, placed.within_counter)) (omega (arith, there.1, placed.within_size)));
  apart = named-apart start s lawful placed;
  one_kind = placed.one_kind;
  unclaimed = refl;
}

pub end-is-start : (up : State) (start : Tables) (seen : List Event) → IsLawfulRun up start seen → IsLawfulStart (ended (tables start seen))
end-is-start up start seen lawful =
    end-start start (tables start seen) (lawful-start up start seen lawful) (placed-run up start seen lawful) (sound-run up start seen lawful) (size-same up start seen lawful)

none-named : (size n words : ℕ) → IsNamed (empty_start size) n words → ⊥
none-named size n words (inl (there, five)) = cc
none-named size n words (inr (ws, there, long)) = cc

pub empty-start : (size : ℕ) → 4096 ≤ size → size ≤ 67108864 → IsLawfulStart (empty_start size)
empty-start size least most = record {
  least = least;
  most = most;
  counter_least = omega arith;
  counter_most = omega (arith, least);
  gave = refl;
  tied = record { to = λ space digest p h. cc; back = λ n r h. cc };
  rooted = λ n h. refl;
  names = λ n r h some. cc;
  used = λ n ws h. cc;
  within = λ n words named. absurd (none-named size n words named);
  apart = λ n m a b one two differ. absurd (none-named size n a one);
  one_kind = λ n h. refl;
  unclaimed = refl;
}
