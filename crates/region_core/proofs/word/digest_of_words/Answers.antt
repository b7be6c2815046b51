use Rattle.std.proofs.Common.{rules, ◌≡◌, ℕ, arith, List, [], ◌∷◌, length, get_or}
use Rattle.region_core.specs.Words.{word_of}
use Rattle.region_core.proofs.Digests.{number_back}
use Rattle.region_core.proofs.word.digest_of_words.Goals as goal

four : (a b c d : ℕ) (ws : List ℕ) → length ws ≡ 4 → a ≡ get_or ws 0 0 → b ≡ get_or ws 1 0 → c ≡ get_or ws 2 0 → d ≡ get_or ws 3 0 → a ∷ b ∷ c ∷ d ∷ [] ≡ ws
four a b c d (x ∷ y ∷ z ∷ w ∷ []) e ha hb hc hd = cc
four a b c d [] e ha hb hc hd = absurd (omega arith)
four a b c d (x ∷ []) e ha hb hc hd = absurd (omega arith)
four a b c d (x ∷ y ∷ []) e ha hb hc hd = absurd (omega arith)
four a b c d (x ∷ y ∷ z ∷ []) e ha hb hc hd = absurd (omega arith)
four a b c d (x ∷ y ∷ z ∷ w ∷ v ∷ vs) e ha hb hc hd = absurd (omega arith)

pub returns : goal.returns
unfolding word_of
returns c = four _ _ _ _ c.args.words (search rules)
    (number_back c.to_be_bytes.result _ c.to_be_bytes.ensures c.element_fits.fits)
    (number_back c.to_be_bytes-2.result _ c.to_be_bytes-2.ensures c.element_fits2.fits)
    (number_back c.to_be_bytes-3.result _ c.to_be_bytes-3.ensures c.element_fits3.fits)
    (number_back c.to_be_bytes-4.result _ c.to_be_bytes-4.ensures c.element_fits4.fits)
