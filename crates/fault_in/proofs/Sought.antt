-- Looking for an object of the tree.
use Rattle.std.proofs.Common.{◌≡◌, ℕ, ◌<◌, ◌++◌, true, None, Some, is_some, ap, sym, ◌∙◌, subst, arith}
use Rattle.std.specs.declared.option.Option.{Option}
use Rattle.std.proofs.lemmas.Bool.{eq-eqb}
use Rattle.std.specs.Option.{is_none}
use Rattle.cas_model.specs.declared.call.Who.{Who}
use Rattle.cas_model.specs.declared.digest.Digest.{Digest}
use Rattle.cas_model.specs.declared.place.Place.{Place}
use Rattle.cas_model.specs.declared.place.Space.TheVariants.{Objects}
use Rattle.cas_model.specs.Primary.{cell_at, cell_under}
use Rattle.cas_model.specs.Tables.{place_of, cell_of}
use Rattle.cas_history.specs.declared.event.Act.TheVariants.{Look, Read}
use Rattle.cas_history.specs.Run.{tables as tables_after}
use Rattle.cas_history.proofs.Sound.{sound-run}
use Rattle.cas_port.specs.Calls.{HasRead, HasRecord, IsLawful, Looked, WantsMemory}
use Rattle.cas_port.specs.View.{View, tables}
use Rattle.graph_db.specs.Events.{SpeaksFor}
use Rattle.graph_db.proofs.Found.{goes-grows}
use Rattle.fault_in.specs.Bringing.{AsksAtMost, HasSought, Seeks}
use Rattle.cas_model.specs.Notes.{deep_note}
use Rattle.fault_in.proofs.Costs.{asks-adds, asks-then, asks-wants}
use Rattle.fault_in.proofs.Steps.{adds-brings, brings-goes, miss-moved, moved-any, moved-then, wants-brings}

looked-brings : (who : Who) (digest : Digest) (old new : View) (place : Option Place) → Looked (deep_note who) Objects digest old new place → Seeks who old new
looked-brings who digest old new place looked root before = adds-brings who root before (Look Objects digest) old new looked.adds tt

-- the digest is not bound
pub looked-none : (who : Who) (digest : Digest) (old new : View) → Looked (deep_note who) Objects digest old new None → HasSought who digest old new None
looked-none who digest old new looked = (
  ap (cell_at (tables new).filled) (sym looked.answer),
  λ root before. miss-moved who root before (Look Objects digest) old new looked.adds tt (ap is_none (sym here)),
) where
  here : None ≡ place_of (tables_after old.start (looked.adds.others ++ old.seen)).bound Objects digest
  here = subst (λ (v : View). None ≡ place_of (tables v).bound Objects digest) looked.adds.is looked.answer

module _ (who : Who) (digest : Digest) (old mid : View) (place : Place) (looked : Looked (deep_note who) Objects digest old mid (Some place)) where
  pub looked-record : IsLawful old mid → HasRecord mid place
  looked-record lawful = ap is_some ((sound-run mid.upstream mid.start mid.seen lawful.is).tied.to Objects digest place (sym looked.answer)).1

  pub looked-wants : (new : View) → WantsMemory mid new → Seeks who old new
  looked-wants new wants root before =
      (moved-then who root before _ _ old mid new (moved-any who root before old mid (looked-brings who digest old mid (Some place) looked root before)) (moved-any who root _ mid new (wants-brings who root _ mid new wants))).0

  module _ (new : View) (value : ℕ) (lawful : IsLawful mid new) (read : HasRead (deep_note who) place mid new value) where
    read-brings : Seeks who mid new
    read-brings root before = adds-brings who root before (Read place) mid new read.adds tt

    at : place_of (tables new).bound Objects digest ≡ Some place
    at = (goes-grows who mid new (brings-goes who digest true mid new (read-brings digest true)) lawful.is).places Objects digest place (sym looked.answer)

    cell : cell_under (tables new) Objects digest ≡ value
    cell = ap (cell_at (tables new).filled) at ∙ sym read.answer

    pub read-found : 0 < value → HasSought who digest old new (Some place)
    read-found some = (
      λ root before. (moved-then who root before _ _ old mid new (moved-any who root before old mid (looked-brings who digest old mid (Some place) looked root before)) (moved-any who root _ mid new (read-brings root _))).0,
      record { at = at; filled = let e = cell in omega (arith, e, some) },
    )

    pub read-missed : value ≡ 0 → HasSought who digest old new None
    read-missed none = (
      cell ∙ none,
      λ root before. moved-then who root before _ true old mid new (moved-any who root before old mid (looked-brings who digest old mid (Some place) looked root before))
          (miss-moved who root _ (Read place) mid new read.adds tt (eq-eqb _ 0 (sym here ∙ none))),
    ) where
      here : value ≡ cell_of (tables_after mid.start (read.adds.others ++ mid.seen)).filled place.at
      here = subst (λ (v : View). value ≡ cell_of (tables v).filled place.at) read.adds.is read.answer

-- ---- looking asks for nothing

pub look-asks : (who : Who) (digest : Digest) (old new : View) (place : Option Place) → SpeaksFor old who → Looked (deep_note who) Objects digest old new place → AsksAtMost who 0 old new
look-asks who digest old new place mine looked = asks-adds who (Look Objects digest) old new 0 mine looked.adds (omega arith)

pub look-wants-asks : (who : Who) (digest : Digest) (old mid new : View) (place : Option Place) → SpeaksFor old who → Looked (deep_note who) Objects digest old mid place → WantsMemory mid new → AsksAtMost who 0 old new
look-wants-asks who digest old mid new place mine looked wants = asks-then who 0 0 old mid new (look-asks who digest old mid place mine looked) (asks-wants who mid new 0 wants)

pub read-asks : (who : Who) (digest : Digest) (old mid new : View) (place : Option Place) (cell : Place) (value : ℕ) → SpeaksFor old who → Looked (deep_note who) Objects digest old mid place
    → HasRead (deep_note who) cell mid new value → AsksAtMost who 0 old new
read-asks who digest old mid new place cell value mine looked read =
    asks-then who 0 0 old mid new (look-asks who digest old mid place mine looked)
    (asks-adds who (Read cell) mid new 0 (subst (λ (v : View). SpeaksFor v who) (sym looked.adds.is) mine) read.adds (omega arith))
