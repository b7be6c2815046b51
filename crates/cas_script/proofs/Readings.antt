-- What one line more adds to the sessions that the lines are.
use Rattle.std.proofs.Common.{◌≡◌, inl, inr, ◌∙◌, sym, ap, subst, ℕ, suc, true, false, List, [], ◌∷◌, ◌++◌, map, length, refl, arith, length-append, append-nil, append_assoc}
use Rattle.std.specs.List.{slice_split, filter}
use Rattle.std.proofs.lemmas.Bool.{cases_Bool, both_ways}
use Rattle.cas_script.specs.declared.script.Line.{Line}
use Rattle.cas_script.specs.declared.script.Session.{Session}
use Rattle.cas_script.specs.Text.{speaks}
use Rattle.cas_script.specs.Lines.{IsLine, stored_by}
use Rattle.cas_script.specs.Grammar.{begins_session, AreLines, IsSession, AreSessions, ReadsLines}
use Rattle.cas_script.specs.Parsing.{session_of, SaysLine, Begins, Adds, Silent, Opens, Speaks}
use Rattle.cas_script.proofs.LineForms.{line_one}
use Rattle.cas_script.proofs.Sections.{push_one, ends, onto_last, onto_last_push, part_of, split_push_cut, split_push, filter_push_no, filter_push_yes}

-- as many lines as texts
pub lines_length : (before : List Line) (texts : List (List ℕ)) (lines : List Line) → AreLines before texts lines → length texts ≡ length lines
lines_length before [] [] are = refl
lines_length before [] (line ∷ lines) are = absurd are
lines_length before (text ∷ texts) [] are = absurd are
lines_length before (text ∷ texts) (line ∷ lines) are = ap suc (lines_length (before ++ line ∷ []) texts lines are.1)

-- as many sessions as parts
pub sessions_length : (bodies : List (List (List ℕ))) (sessions : List Session) → AreSessions bodies sessions → length bodies ≡ length sessions
sessions_length [] [] are = refl
sessions_length [] (session ∷ sessions) are = absurd are
sessions_length (body ∷ bodies) [] are = absurd are
sessions_length (body ∷ bodies) (session ∷ sessions) are = ap suc (sessions_length bodies sessions are.1)

-- one line more
lines_push : (before : List Line) (texts : List (List ℕ)) (lines : List Line) (text : List ℕ) (line : Line) → AreLines before texts lines
    → IsLine (map stored_by (before ++ lines)) text line → AreLines before (texts ++ text ∷ []) (lines ++ line ∷ [])
lines_push before [] [] text line are is = (subst (λ list. IsLine (map stored_by list) text line) (append-nil before) is, tt)
lines_push before [] (first ∷ lines) text line are is = absurd are
lines_push before (first ∷ texts) [] text line are is = absurd are
lines_push before (first ∷ texts) (head ∷ lines) text line are is =
    let same : before ++ head ∷ lines ≡ (before ++ head ∷ []) ++ lines = sym (append_assoc before (head ∷ []) lines) in
    (are.0, lines_push (before ++ head ∷ []) texts lines text line are.1 (subst (λ list. IsLine (map stored_by list) text line) same is))

-- the lines of one text more
record Pushed (before : List Line) (texts : List (List ℕ)) (text : List ℕ) (all : List Line) : Type 0 where
  lines : List Line
  line : Line
  is_all : all ≡ lines ++ line ∷ []
  are : AreLines before texts lines
  is : IsLine (map stored_by (before ++ lines)) text line

lines_pushed : (before : List Line) (texts : List (List ℕ)) (text : List ℕ) (all : List Line) → AreLines before (texts ++ text ∷ []) all
    → Pushed before texts text all
lines_pushed before [] text [] are = absurd are
lines_pushed before [] text (line ∷ []) are = record {
  lines = [];
  line = line;
  is_all = refl;
  are = tt;
  is = subst (λ list. IsLine (map stored_by list) text line) (sym (append-nil before)) are.0;
}
lines_pushed before [] text (line ∷ next ∷ rest) are = absurd are.1
lines_pushed before (first ∷ texts) text [] are = absurd are
lines_pushed before (first ∷ texts) text (head ∷ all) are =
    let rest = lines_pushed (before ++ head ∷ []) texts text all are.1 in
    let same : (before ++ head ∷ []) ++ rest.lines ≡ before ++ head ∷ rest.lines = append_assoc before (head ∷ []) rest.lines in
    record {
      lines = head ∷ rest.lines;
      line = rest.line;
      is_all = ap (λ list. head ∷ list) rest.is_all;
      are = (are.0, rest.are);
      is = subst (λ list. IsLine (map stored_by list) text rest.line) same rest.is;
    }

-- one session more
sessions_push : (bodies : List (List (List ℕ))) (sessions : List Session) (body : List (List ℕ)) (session : Session)
    → AreSessions bodies sessions → IsSession body session → AreSessions (bodies ++ body ∷ []) (sessions ++ session ∷ [])
sessions_push [] [] body session are is = (is, tt)
sessions_push [] (first ∷ sessions) body session are is = absurd are
sessions_push (first ∷ bodies) [] body session are is = absurd are
sessions_push (first ∷ bodies) (head ∷ sessions) body session are is = (are.0, sessions_push bodies sessions body session are.1 is)

-- the sessions of one part more
record PushedSession (bodies : List (List (List ℕ))) (body : List (List ℕ)) (all : List Session) : Type 0 where
  front : List Session
  session : Session
  is_all : all ≡ front ++ session ∷ []
  are : AreSessions bodies front
  is : IsSession body session

sessions_pushed : (bodies : List (List (List ℕ))) (body : List (List ℕ)) (all : List Session) → AreSessions (bodies ++ body ∷ []) all
    → PushedSession bodies body all
sessions_pushed [] body [] are = absurd are
sessions_pushed [] body (session ∷ []) are = record { front = []; session = session; is_all = refl; are = tt; is = are.0 }
sessions_pushed [] body (session ∷ next ∷ rest) are = absurd are.1
sessions_pushed (first ∷ bodies) body [] are = absurd are
sessions_pushed (first ∷ bodies) body (head ∷ all) are =
    let rest = sessions_pushed bodies body all are.1 in
    record {
      front = head ∷ rest.front;
      session = rest.session;
      is_all = ap (λ list. head ∷ list) rest.is_all;
      are = (are.0, rest.are);
      is = rest.is;
    }

-- the parts of one session more
record PushedBody (bodies : List (List (List ℕ))) (front : List Session) (session : Session) : Type 0 where
  earlier : List (List (List ℕ))
  body : List (List ℕ)
  is_all : bodies ≡ earlier ++ body ∷ []
  are : AreSessions earlier front
  is : IsSession body session

bodies_pushed : (bodies : List (List (List ℕ))) (front : List Session) (session : Session) → AreSessions bodies (front ++ session ∷ [])
    → PushedBody bodies front session
bodies_pushed [] [] session are = absurd are
bodies_pushed [] (head ∷ front) session are = absurd are
bodies_pushed (body ∷ []) [] session are = record { earlier = []; body = body; is_all = refl; are = tt; is = are.0 }
bodies_pushed (body ∷ next ∷ rest) [] session are = absurd are.1
bodies_pushed (body ∷ bodies) (head ∷ front) session are =
    let rest = bodies_pushed bodies front session are.1 in
    record {
      earlier = body ∷ rest.earlier;
      body = rest.body;
      is_all = ap (λ list. body ∷ list) rest.is_all;
      are = (are.0, rest.are);
      is = rest.is;
    }

-- a line that says nothing
silent : (texts : List (List ℕ)) (sessions : List Session) (text : List ℕ) → speaks text ≡ false → ReadsLines texts sessions
    → ReadsLines (texts ++ text ∷ []) sessions
silent texts sessions text no_ reads = record {
  bodies = reads.bodies;
  parts = ap (slice_split begins_session) (filter_push_no speaks texts text no_) ∙ reads.parts;
  few = reads.few;
  are = reads.are;
}

unsilent : (texts : List (List ℕ)) (sessions : List Session) (text : List ℕ) → speaks text ≡ false → ReadsLines (texts ++ text ∷ []) sessions
    → ReadsLines texts sessions
unsilent texts sessions text no_ reads = record {
  bodies = reads.bodies;
  parts = ap (slice_split begins_session) (sym (filter_push_no speaks texts text no_)) ∙ reads.parts;
  few = reads.few;
  are = reads.are;
}

-- the parts of one line more: a new one, or the last grown by the line
cut_more : (texts : List (List ℕ)) (text : List ℕ) → speaks text ≡ true → begins_session text ≡ true
    → slice_split begins_session (filter speaks (texts ++ text ∷ [])) ≡ slice_split begins_session (filter speaks texts) ++ [] ∷ []
cut_more texts text said is =
    ap (slice_split begins_session) (filter_push_yes speaks texts text said) ∙ split_push_cut begins_session (filter speaks texts) text is

grow_last : (texts : List (List ℕ)) (text : List ℕ) → speaks text ≡ true → begins_session text ≡ false
    → slice_split begins_session (filter speaks (texts ++ text ∷ [])) ≡ onto_last text (slice_split begins_session (filter speaks texts))
grow_last texts text said other =
    ap (slice_split begins_session) (filter_push_yes speaks texts text said) ∙ split_push begins_session (filter speaks texts) text other

-- a session with no line yet
is_bare : IsSession [] (session_of [])
is_bare = record { few = omega arith; are = tt }

opens : (texts : List (List ℕ)) (before after : List Session) (text : List ℕ) → speaks text ≡ true → begins_session text ≡ true
    → Begins before after → ReadsLines texts before → ReadsLines (texts ++ text ∷ []) after
opens texts before after text said is begins reads =
    let long = sessions_length reads.bodies before reads.are in
    let few = begins.few in
    record {
      bodies = reads.bodies ++ [] ∷ [];
      parts = cut_more texts text said is ∙ ap (λ parts. parts ++ [] ∷ []) reads.parts;
      few = omega (arith, length-append reads.bodies ([] ∷ []));
      are = subst (AreSessions (reads.bodies ++ [] ∷ [])) (sym begins.now) (sessions_push reads.bodies before [] (session_of []) reads.are is_bare);
    }

says : (texts : List (List ℕ)) (before after : List Session) (text : List ℕ) → SaysLine before text after → ReadsLines texts before
    → ReadsLines (texts ++ text ∷ []) after
says texts before after text line reads =
    let was = bodies_pushed reads.bodies line.front (session_of line.lines) (subst (AreSessions reads.bodies) line.was reads.are) in
    let long = lines_length [] was.body line.lines was.is.are in
    let few = line.few in
    let all = reads.few in
    let count = ap length was.is_all in
    record {
      bodies = was.earlier ++ (was.body ++ text ∷ []) ∷ [];
      parts = grow_last texts text line.said line.other ∙ ap (onto_last text) (reads.parts ∙ ap (λ list. [] ∷ list) was.is_all)
          ∙ onto_last_push text ([] ∷ was.earlier) was.body;
      few = omega (arith, length-append was.earlier (was.body ∷ []), length-append was.earlier ((was.body ++ text ∷ []) ∷ []));
      are = subst (AreSessions (was.earlier ++ (was.body ++ text ∷ []) ∷ [])) (sym line.now)
          (sessions_push was.earlier line.front (was.body ++ text ∷ []) (session_of (line.lines ++ line.added ∷ [])) was.are (record {
            few = omega (arith, length-append was.body (text ∷ []));
            are = lines_push [] was.body line.lines text line.added was.is.are line.is;
          }));
    }

-- one line more is read
pub extended : (texts : List (List ℕ)) (before after : List Session) (text : List ℕ) → Adds before text after → ReadsLines texts before
    → ReadsLines (texts ++ text ∷ []) after
extended texts before after text (Silent no_ same) reads = subst (ReadsLines (texts ++ text ∷ [])) (sym same) (silent texts before text no_ reads)
extended texts before after text (Opens said is begins) reads = opens texts before after text said is begins reads
extended texts before after text (Speaks line) reads = says texts before after text line reads

-- what is read with one line more was read before it
pub record Earlier (texts : List (List ℕ)) (text : List ℕ) (after : List Session) : Type 0 where
  pub before : List Session
  pub reads : ReadsLines texts before
  pub adds : Adds before text after

-- no texts are no lines
no_lines : (lines : List Line) → AreLines [] [] lines → lines ≡ []
no_lines [] are = refl
no_lines (line ∷ lines) are = absurd are

-- a session of no texts has no lines
bare_lines : (session : Session) → IsSession [] session → session ≡ session_of []
bare_lines session is =
    let none = no_lines session.lines is.are in
    ap session_of none

unopened : (texts : List (List ℕ)) (text : List ℕ) (after : List Session) → speaks text ≡ true → begins_session text ≡ true
    → ReadsLines (texts ++ text ∷ []) after → Earlier texts text after
unopened texts text after said is reads =
    let cut = part_of begins_session (filter speaks texts) in
    let parts : cut.first ∷ (cut.rest ++ [] ∷ []) ≡ [] ∷ reads.bodies =
    sym (cut_more texts text said is ∙ ap (λ list. list ++ [] ∷ []) cut.is) ∙ reads.parts in
    let first : cut.first ≡ [] = cc (parts) in
    let rest : reads.bodies ≡ cut.rest ++ [] ∷ [] = cc (parts) in
    let was = sessions_pushed cut.rest [] after (subst (λ list. AreSessions list after) rest reads.are) in
    let count = ap length rest in
    let all = reads.few in
    let long = sessions_length cut.rest was.front was.are in
    let many = length-append cut.rest ([] ∷ []) in
    record {
      before = was.front;
      reads = record {
        bodies = cut.rest;
        parts = cut.is ∙ ap (λ part. part ∷ cut.rest) first;
        few = omega arith;
        are = was.are;
      };
      adds = Opens said is (record {
        few = omega arith;
        now = was.is_all ∙ ap (λ session. was.front ++ session ∷ []) (bare_lines was.session was.is);
      });
    }

-- the parts before the line, where it stands at the end of the last
record Last (text : List ℕ) (first : List (List ℕ)) (rest : List (List (List ℕ))) (bodies : List (List (List ℕ))) : Type 0 where
  none : first ≡ []
  earlier : List (List (List ℕ))
  body : List (List ℕ)
  was : rest ≡ earlier ++ body ∷ []
  now : bodies ≡ earlier ++ (body ++ text ∷ []) ∷ []

push_not_nil : (xs : List (List ℕ)) (x : List ℕ) → xs ++ x ∷ [] ≡ [] → ⊥
push_not_nil [] x same = cc
push_not_nil (y ∷ xs) x same = cc

last_part : (text : List ℕ) (first : List (List ℕ)) (rest bodies : List (List (List ℕ))) → onto_last text (first ∷ rest) ≡ [] ∷ bodies
    → Last text first rest bodies
last_part text first [] bodies same =
    let none : first ++ text ∷ [] ≡ [] = cc in
    absurd (push_not_nil first text none)
last_part text first (next ∷ rest) bodies same =
    let end = ends next rest in
    let tail : bodies ≡ onto_last text (next ∷ rest) = cc in
    record {
      none = cc;
      earlier = end.front;
      body = end.last;
      was = end.is;
      now = tail ∙ ap (onto_last text) end.is ∙ onto_last_push text end.front end.last;
    }

unsaid : (texts : List (List ℕ)) (text : List ℕ) (after : List Session) → speaks text ≡ true → begins_session text ≡ false
    → ReadsLines (texts ++ text ∷ []) after → Earlier texts text after
unsaid texts text after said other reads =
    let cut = part_of begins_session (filter speaks texts) in
    let parts : onto_last text (cut.first ∷ cut.rest) ≡ [] ∷ reads.bodies =
    sym (grow_last texts text said other ∙ ap (onto_last text) cut.is) ∙ reads.parts in
    let last = last_part text cut.first cut.rest reads.bodies parts in
    let was = sessions_pushed last.earlier (last.body ++ text ∷ []) after (subst (λ list. AreSessions list after) last.now reads.are) in
    let line = lines_pushed [] last.body text was.session.lines was.is.are in
    let short = was.is.few in
    let many = length-append last.body (text ∷ []) in
    let long = lines_length [] last.body line.lines line.are in
    let all = reads.few in
    let count = ap length last.now in
    let sum = length-append last.earlier ((last.body ++ text ∷ []) ∷ []) in
    let sum' = length-append last.earlier (last.body ∷ []) in
    let count' = ap length last.was in
    record {
      before = was.front ++ session_of line.lines ∷ [];
      reads = record {
        bodies = cut.rest;
        parts = cut.is ∙ ap (λ part. part ∷ cut.rest) last.none;
        few = omega arith;
        are = subst (λ list. AreSessions list (was.front ++ session_of line.lines ∷ [])) (sym last.was)
            (sessions_push last.earlier was.front last.body (session_of line.lines) was.are (record { few = omega arith; are = line.are }));
      };
      adds = Speaks (record {
        said = said;
        other = other;
        front = was.front;
        lines = line.lines;
        added = line.line;
        was = refl;
        now = was.is_all ∙ ap (λ list. was.front ++ session_of list ∷ []) line.is_all;
        few = omega arith;
        is = line.is;
      });
    }

pub earlier : (texts : List (List ℕ)) (text : List ℕ) (after : List Session) → ReadsLines (texts ++ text ∷ []) after → Earlier texts text after
earlier texts text after reads =
    elim (cases_Bool (speaks text)) [
      | inl said ↦ elim (cases_Bool (begins_session text)) [
        | inl is ↦ unopened texts text after said is reads
        | inr other ↦ unsaid texts text after said other reads
      ]
      | inr no_ ↦ record { before = after; reads = unsilent texts after text no_ reads; adds = Silent no_ refl }
    ]

-- a line adds one thing
pub adds_one : (before a b : List Session) (text : List ℕ) → Adds before text a → Adds before text b → a ≡ b
adds_one before a b text (Silent no_ same) (Silent no_' same') = same ∙ sym same'
adds_one before a b text (Silent no_ same) (Opens said is begins) = absurd (both_ways (speaks text) no_ said)
adds_one before a b text (Silent no_ same) (Speaks line) = absurd (both_ways (speaks text) no_ line.said)
adds_one before a b text (Opens said is begins) (Silent no_ same) = absurd (both_ways (speaks text) no_ said)
adds_one before a b text (Opens said is begins) (Opens said' is' begins') = begins.now ∙ sym begins'.now
adds_one before a b text (Opens said is begins) (Speaks line) = absurd (both_ways (begins_session text) line.other is)
adds_one before a b text (Speaks line) (Silent no_ same) = absurd (both_ways (speaks text) no_ line.said)
adds_one before a b text (Speaks line) (Opens said is begins) = absurd (both_ways (begins_session text) line.other is)
adds_one before a b text (Speaks line) (Speaks line') =
    let parts = push_one line.front line'.front (session_of line.lines) (session_of line'.lines) (sym line.was ∙ line'.was) in
    let fronts = parts.0 in
    let lines : line.lines ≡ line'.lines = ap (λ (s : Session). s.lines) parts.1 in
    let added : line.added ≡ line'.added =
    line_one (map stored_by line.lines) text line.added line'.added line.is
    (subst (λ list. IsLine (map stored_by list) text line'.added) (sym lines) line'.is) in
    line.now ∙ ap (λ front. front ++ session_of (line.lines ++ line.added ∷ []) ∷ []) fronts
    ∙ ap (λ list. line'.front ++ session_of (list ++ line.added ∷ []) ∷ []) lines
    ∙ ap (λ x. line'.front ++ session_of (line'.lines ++ x ∷ []) ∷ []) added ∙ sym line'.now
