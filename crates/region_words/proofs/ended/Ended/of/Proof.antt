-- A value of no bytes, whose ghost field is the list that the `requires` names.
use Rattle.atomic_table.proofs.Names.{[], ◌∷◌, refl, named, Val, vptr, SProp, emp, ftrue, ‵, raw, ◌⊛◌, given, fjoin, ◌$◌, ◌∵◌, !, qed, by, keep, drop, split, learn, use0, no_more, and_then, returns, enter, alloc_all, pass_all, free_all, look_at, get, sets, agg, tables, yes, RattleType, owns, types_at, plain, nothing, alive, Stays, stay_dropped, walk_of, Goes-dropped, fact, fact_i, RefOf, shr_vals, shr_Tells}
use Rattle.atomic_table.proofs.Walks.{proved, leaves}
use Rattle.atomic_table.proofs.Fields.{token_val}
use mir.Val.{vstruct, vnil}
use base.Fml.{Fml}
use denote.Signature.{type_at}
use denote.Shadow.{makes_shadow}
use Rattle.region_words.specs.contracts.ended.Shut as shut
use Rattle.cas_history.specs.declared.event.Event.{Event}
use Rattle.std.specs.Prelude.{List}
use Rattle.region_words.specs.Closing.{Ends, StandFor}
use Rattle.region_words.specs.Rule.{origin}
use Rattle.region_words.specs.contracts.ended.Ended as made
use Rattle.region_words.specs.contracts.ended.Ended.of as f
use Rattle.region_words.proofs.ended.Ended.of.Statement.{statement}
use Rattle.region_words.proofs.ended.Ended.of.Code as code

pub of_spec : {M : Type 1} → statement M
of_spec 𝓤 𝓛 𝓜 𝓡 wired =
    let H = 𝓛.H in let 𝓣 = tables 𝓤 H 𝓜 𝓡 𝓡.env in let c = f.clauses 𝓛 𝓜.mem 𝓡.returns in
    let Wr : RattleType = shut.the_row in
    let hs : Stays f.ended.signature.params f.ended.kept = (stay_dropped (RefOf (0 ∷ []) tt (plain (λ _. Wr)) (λ _. tt)) yes, tt) in
    proved 𝓛 f.ended hs c 𝓜 𝓡 (Goes-dropped 𝓛 1 (RefOf (0 ∷ []) tt (plain (λ _. Wr)) (λ _. tt)) yes (λ κs x g. refl), tt) f.Key.name code.function (code.unfolded 𝓤 H 𝓜 𝓡 wired)
    (λ κs. (shr_vals, tt)) (λ κs. (shr_Tells (named 0) κs.0 Wr, tt)) (λ κs qs bounds a gh are.
    let at : Val = vptr a.0.ref_ptr.0 a.0.ref_ptr.1 in
    let y : (walk_of 𝓛 f.ended hs c).Ghost = ((κs, qs, bounds, a, (at ∷ [], tt)), gh) in let Post : Val → SProp 𝓤 = (walk_of 𝓛 f.ended hs c).post y in
    qed 𝓛 ((raw (alive 𝓛 f.ended.signature κs qs) ⊛ ‵ (owns (types_at f.ended.signature.params κs) a y.0.4)) ∷ given ((log : List Event) × Ends (origin a.0.now.region.value.key) a.0.now.seat.value.view log × StandFor (origin a.0.now.region.value.key) log a.0.now.words.items) (‵ ftrue) ∷ []) ∵
    keep ! (1 ∷ 0 ∷ []) $ learn ! (λ asked.
    let r : made.the_row.Denot = record { marker = record {}; log = asked.0 } in
    let O : Fml = (type_at f.ended.signature.result κs).own_val r (token_val ∷ []) in
    let Told : Type 0 = Ends (origin a.0.now.region.value.key) a.0.now.seat.value.view asked.0 × StandFor (origin a.0.now.region.value.key) asked.0 a.0.now.words.items in
    drop ! $ split ! $ keep ! (0 ∷ []) $ nothing ! $ nothing ! $ fjoin ! $
    enter ! 𝓣.C 𝓣.Λ code.function (at ∷ []) Post $ alloc_all ! (λ l. pass_all ! refl ((tt, tt), tt) $
    sets ! (agg ! (no_more !)) refl (tt, tt) $ sets ! (agg ! (and_then ! (get ! refl) (no_more !))) refl (tt, (tt, tt)) $
    use0 𝓛 (raw (fact 𝓤 Told)) (fact_i 𝓤 Told (emp 𝓤) (asked.1, asked.2)) $
    use0 𝓛 (‵ O) (makes_shadow 𝓛 O ((λ vss. (tt, ((λ uss. (tt, tt)), tt))), tt) (((vstruct vnil ∷ [], tt), (refl, ((tt, (refl, tt)), tt))), tt)) $
    returns ! (look_at ! 0 refl) $ free_all ! refl $ keep ! (3 ∷ 2 ∷ 0 ∷ 1 ∷ []) $ by ! (leaves 𝓛 f.ended hs c y token_val r (tt, tt) (tt, tt)))))
