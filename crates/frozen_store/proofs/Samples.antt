-- Contents that tests build.
use Rattle.std.proofs.Common.{◌≡◌, ◌≢◌, ℕ, List, [], ◌∷◌, length, ◌≤◌, true, false, sym, ap, ◌∙◌, arith}
use Rattle.cas_model.specs.declared.contents.Pair.{Pair}
use Rattle.cas_model.specs.declared.digest.Digest.{Digest}
use Rattle.cas_model.specs.declared.object.Object.{Object}
use Rattle.cas_model.specs.Contents.{AreLawfulContents}
use Rattle.cas_model.specs.Object.{digest_of, object_digest}
use Rattle.cas_model.specs.Tables.{same_digest}
use Rattle.cas_model.proofs.Maps.{same-self}

other : (d e : Digest) → false ≡ same_digest d e → d ≢ e
other d e differ = λ same. absurd (let clash : false ≡ true = differ ∙ sym (ap (same_digest d) same) ∙ same-self d in cc)

-- two objects without references, a node that names the first, the second and the first again, and a key of the node
module _ (a b n : Digest) (x y z : List ℕ) (a_is : a ≡ digest_of [] x) (b_is : b ≡ digest_of [] y) (n_is : n ≡ digest_of (a ∷ b ∷ a ∷ []) z) (ab : false ≡ same_digest a b) (an : false ≡ same_digest a n) (bn : false ≡ same_digest b n) where
  pub node_lawful :
      (objects : List Object) (pairs : List Pair) (one two node : Object) (pair : Pair) → objects ≡ one ∷ two ∷ node ∷ [] → pairs ≡ pair ∷ []
      → one.refs ≡ [] → two.refs ≡ [] → node.refs ≡ a ∷ b ∷ a ∷ [] → one.data ≡ x → two.data ≡ y → node.data ≡ z
      → length x ≤ 16777215 → length y ≤ 16777215 → length z ≤ 16777215 → pair.value ≡ n → AreLawfulContents objects pairs
  node_lawful objects pairs one two node pair objects_are pairs_are none none_too refs x_is y_is z_is short short_too short_node value =
      let one_is : object_digest one ≡ a = ap (λ rs. digest_of rs one.data) none ∙ ap (digest_of []) x_is ∙ sym a_is in
      let two_is : object_digest two ≡ b = ap (λ rs. digest_of rs two.data) none_too ∙ ap (digest_of []) y_is ∙ sym b_is in
      let node_is : object_digest node ≡ n = ap (λ rs. digest_of rs node.data) refs ∙ ap (digest_of (a ∷ b ∷ a ∷ [])) z_is ∙ sym n_is in
      let one_other : a ≢ b = other a b ab in
      let two_other : a ≢ n = other a n an in
      let node_other : b ≢ n = other b n bn in
      record { storable = grind arith; puttable = grind arith }
