-- Where the blocks of contents lie that are stored in their order: each at the place behind the claims before it.
use Rattle.std.specs.Prelude.{◌≡◌, ℕ, suc, ◌+◌, ◌*◌, ◌<◌, List, [], Some, sum, take, slice_get}
use Rattle.cas_model.specs.declared.contents.Pair.{Pair}
use Rattle.cas_model.specs.declared.digest.Digest.{Digest}
use Rattle.cas_model.specs.declared.object.Object.{Object}
use Rattle.cas_model.specs.declared.place.Space.{Space}
use Rattle.cas_model.specs.declared.place.Space.TheVariants.{Objects, Actions}
use Rattle.cas_model.specs.Claims.{record_claims, object_claims, contents_claims}
use Rattle.cas_model.specs.Contents.{object_digests, pair_keys}
use Rattle.cas_model.specs.Object.{object_digest}
use Rattle.cas_model.specs.Trie.{path, sharing, new_subtries}
use Rattle.region_core.specs.Leads.{Leads, IsRecordOf, IsContentOf, digest_there}

-- the record of a digest lies at the place, where the known digests had records before it, and behind the record lie the subtries
-- that it needed, of 16 words each and the lowest level first: for each level from 1 to 62 where just one of the known digests
-- shares its indexes, the table to which these lead
pub record HasRecordFrom (words : List ℕ) (space : Space) (known : List Digest) (digest : Digest) (place : ℕ) : Type 0 where
  pub named : IsRecordOf words space place
  pub digest_is : digest_there words place ≡ digest
  pub subtries : (level : ℕ) → level < 62 → sharing known digest (suc level) ≡ 1 → Leads words space (path digest.bytes (suc level)) (place + 5 + 16 * new_subtries known digest level)

-- the record of an object lies at the place, with its subtries behind it, and then its content
pub record HasObjectFrom (words : List ℕ) (known : List Digest) (object : Object) (place : ℕ) : Type 0 where
  pub owner : HasRecordFrom words Objects known (object_digest object) place
  pub content : IsContentOf words place (place + sum (record_claims known (object_digest object)))

-- each object lies behind the claims of the objects before it, the first at 520, and each action behind those of all objects and of
-- the actions before it
pub record LieInOrder (words : List ℕ) (objects : List Object) (actions : List Pair) : Type 0 where
  pub each_object : (i : ℕ) (o : Object) → slice_get objects i ≡ Some o → HasObjectFrom words (object_digests (take i objects)) o (520 + sum (object_claims [] (take i objects)))
  pub each_action : (i : ℕ) (p : Pair) → slice_get actions i ≡ Some p → HasRecordFrom words Actions (pair_keys (take i actions)) p.key (520 + sum (contents_claims objects (take i actions)))
