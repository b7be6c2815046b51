-- A plain port that is opened at contents.
use Rattle.std.specs.Prelude.{◌≡◌, ◌↔◌, IsSome, ℕ, ◌+◌, ◌*◌, List, [], ◌∷◌, ◌++◌, Some, None, length, reverse, drop, sum}
use Rattle.std.specs.declared.option.Option.{Option}
use Rattle.cas_model.specs.declared.contents.Pair.{Pair}
use Rattle.cas_model.specs.declared.digest.Digest.{Digest}
use Rattle.cas_model.specs.declared.object.Object.{Object}
use Rattle.cas_model.specs.declared.place.Place.{Place}
use Rattle.cas_model.specs.declared.place.Space.TheVariants.{Objects, Actions}
use Rattle.cas_model.specs.declared.tables.Record.{Record}
use Rattle.cas_model.specs.Content.{content_words}
use Rattle.cas_model.specs.Contents.{contents_state, object_digests, pair_keys, AreStorable, ArePuttable}
use Rattle.cas_model.specs.Object.{object_digest}
use Rattle.cas_model.specs.Primary.{primary}
use Rattle.cas_model.specs.Start.{IsLawfulStart}
use Rattle.cas_model.specs.State.{Member}
use Rattle.cas_model.specs.Tables.{Tables, empty_start, place_of}
use Rattle.cas_model.specs.Claims.{contents_claims, object_claims, action_claims}
use Rattle.cell_port.specs.FilledRows.{AreRows, filled_objects}
use Rattle.cell_port.specs.Needed.{needed, bound_in}
use Rattle.cell_port.specs.Plain.{IsPaid}
use Rattle.cell_port.specs.Tables.{PlainRows, as_start}

-- the start holds just these contents, which were stored in their order
pub record OpensAt (objects : List Object) (actions : List Pair) (size : ℕ) (start : Tables) : Type 0 where
  pub lawful : IsLawfulStart start
  pub size_is : start.size ≡ size
  pub counter_is : start.counter ≡ 520 + sum (contents_claims objects actions)
  pub state : primary start ≡ contents_state objects actions
  -- the objects were filled in this order
  pub order : filled_objects start.bound start.blocks start.filled ≡ reverse objects

-- a digest is bound in the space of objects exactly where it is the digest of one of these objects, and in the space of
-- actions exactly where it is the key of one of these pairs
pub record BindsExactly (objects : List Object) (actions : List Pair) (start : Tables) : Type 0 where
  pub objects_are : (d : Digest) → IsSome (place_of start.bound Objects d) ↔ Member d (object_digests objects)
  pub keys_are : (d : Digest) → IsSome (place_of start.bound Actions d) ↔ Member d (pair_keys actions)

-- ---- on the way

abbrev pub at_place : Option Place → ℕ
at_place None = 0
at_place (Some p) = p.at

-- the places of the records of objects
abbrev pub places_of : List Record → List Digest → List ℕ
places_of bound [] = []
places_of bound (d ∷ ds) = at_place (place_of bound Objects d) ∷ places_of bound ds

-- the rows with one more object: its record, and the content at the place after the record's and the subtries' words
abbrev pub with_object : PlainRows → Object → PlainRows
with_object r o =
    let value = r.counter + (5 + 16 * needed r.bound Objects (object_digest o)) in
    let words = content_words (places_of r.bound o.refs) o.data in
    record r {
      counter = value + length words;
      bound = (record { space = Objects; digest = object_digest o; place = record { at = r.counter } }) ∷ r.bound;
      filled = (record { of = record { at = r.counter }; value = value }) ∷ r.filled;
      blocks = (record { place = value; words = words }) ∷ r.blocks;
    }

-- the rows with one more action
abbrev pub with_action : PlainRows → Pair → PlainRows
with_action r p = record r {
  counter = r.counter + (5 + 16 * needed r.bound Actions p.key);
  bound = (record { space = Actions; digest = p.key; place = record { at = r.counter } }) ∷ r.bound;
  filled = (record { of = record { at = r.counter }; value = at_place (place_of r.bound Objects p.value) }) ∷ r.filled;
}

-- the rows hold just these objects and pairs, the newest first, after claims of so many words
pub record IsBuilt (size claimed : ℕ) (objects : List Object) (pairs : List Pair) (r : PlainRows) : Type 0 where
  pub start : r.start ≡ empty_start size
  pub counter_is : r.counter ≡ 520 + claimed
  pub lawful : IsLawfulStart (as_start r)
  pub known : bound_in Objects r.bound ≡ object_digests objects
  pub keys : bound_in Actions r.bound ≡ pair_keys pairs
  pub state : primary (as_start r) ≡ contents_state objects pairs
  pub order : filled_objects r.bound r.blocks r.filled ≡ objects
  pub rows : AreRows r.bound r.blocks r.filled
  pub paid : IsPaid r []

-- some of the objects are stored, and the others are left
pub record StoresObjects (size : ℕ) (objects : List Object) (i : ℕ) (r : PlainRows) : Type 0 where
  pub done : List Object
  pub claims : List ℕ
  pub built : IsBuilt size (sum claims) done [] r
  pub left : AreStorable (object_digests done) (drop i objects)
  pub split : reverse objects ≡ reverse (drop i objects) ++ done
  pub claimed : object_claims [] objects ≡ claims ++ object_claims (object_digests done) (drop i objects)

-- all objects are stored, and some of the pairs
pub record PutsPairs (size : ℕ) (objects : List Object) (actions : List Pair) (i : ℕ) (r : PlainRows) : Type 0 where
  pub done : List Pair
  pub claims : List ℕ
  pub built : IsBuilt size (sum (object_claims [] objects) + sum claims) (reverse objects) done r
  pub left : ArePuttable (object_digests (reverse objects)) (pair_keys done) (drop i actions)
  pub split : reverse actions ≡ reverse (drop i actions) ++ done
  pub claimed : action_claims [] actions ≡ claims ++ action_claims (pair_keys done) (drop i actions)
