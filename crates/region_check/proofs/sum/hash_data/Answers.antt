use Rattle.std.proofs.Common.{◌≡◌, ◌+◌, ◌-◌, ◌*◌, ◌/◌, ◌%◌, ◌++◌, length, take, drop, subst, ap, ◌∙◌, arith}
use Rattle.std.proofs.lemmas.List.{take_all, length-drop}
use Rattle.sha2.specs.Hashers.{Holds256}
use Rattle.cas_model.specs.Content.{bytes_of}
use Rattle.region_check.proofs.Summing.{piece_more, piece_last}
use Rattle.region_check.proofs.sum.hash_data.Goals as goal

pub loop-piece-preserved : goal.loop-piece-preserved
loop-piece-preserved c =
    λ m held.
    let size : 32 * c.loop-piece.piece + 32 - 32 * c.loop-piece.piece ≡ 32 = omega arith in
    subst (Holds256 c.hash_piece.new.hasher)
    (ap (λ n. (m ++ take (256 * c.loop-piece.piece) (bytes_of c.args.words.now)) ++ take 256 (bytes_of (take n (drop (32 * c.loop-piece.piece) c.args.words.now)))) size ∙ piece_more c.args.words.now m c.loop-piece.piece)
    (c.hash_piece.ensures _ (c.loop-piece.invariant m held))

pub returns : goal.returns
returns c =
    λ m held.
    let at : c.loop-piece.piece ≡ c.args.count / 256 = omega (arith, c.loop-piece-test.false, c.loop-piece.auto.piece-end) in
    let rest : take (length c.args.words.now - 32 * (c.args.count / 256)) (drop (32 * (c.args.count / 256)) c.args.words.now) ≡ drop (32 * (c.args.count / 256)) c.args.words.now =
    take_all (length c.args.words.now - 32 * (c.args.count / 256)) (drop (32 * (c.args.count / 256)) c.args.words.now) (omega (arith, length-drop (32 * (c.args.count / 256)) c.args.words.now)) in
    subst (Holds256 c.hash_piece-2.new.hasher)
    (ap (λ ws. (m ++ take (256 * (c.args.count / 256)) (bytes_of c.args.words.now)) ++ take (c.args.count % 256) (bytes_of ws)) rest ∙ piece_last c.args.words.now m c.args.count)
    (c.hash_piece-2.ensures _ (subst (λ k. Holds256 c.loop-piece.hasher (m ++ take (256 * k) (bytes_of c.args.words.now))) at (c.loop-piece.invariant m held)))
