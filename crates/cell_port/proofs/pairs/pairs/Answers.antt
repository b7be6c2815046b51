use Rattle.std.proofs.Common.{◌≡◌, rules, map, ap, sym, ◌∙◌, subst, List, ℕ}
use Rattle.std.proofs.lemmas.Map.Iter.{iter_end}
use Rattle.std.specs.Map.Iter.{deref_pair}
use Rattle.cas_model.specs.declared.contents.Pair.{Pair}
use Rattle.cas_model.specs.declared.digest.Digest.{Digest}
use Rattle.cell_port.specs.FilledRows.{HoldsPairs, filled_pairs}
use Rattle.cell_port.proofs.PairRows.{pair_of, entries-map, entries-rise}
use Rattle.cell_port.proofs.pairs.pairs.Goals as goal

pub returns : goal.returns
returns c =
    let all : map deref_pair c.loop-bytes.yielded ≡ c.in_ok-values.values.entries = search (rules, iter_end) in
    let are : c.loop-bytes.pairs.items ≡ map pair_of c.in_ok-values.values.entries = c.loop-bytes.invariant ∙ ap (λ (es : List (List ℕ × Digest)). map pair_of es) all in
    subst (λ (ps : List Pair). HoldsPairs c.args.tables.now.bound c.args.tables.now.filled ps) (sym are) (record {
      state = entries-map c.in_ok-values.values.entries (filled_pairs c.args.tables.now.bound c.args.tables.now.filled) c.in_ok-values.ensures;
      rising = entries-rise c.in_ok-values.values.entries c.len.ensures.ordered;
    })
