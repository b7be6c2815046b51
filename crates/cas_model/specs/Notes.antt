-- The notes of a call's events, by what they are about.
use Rattle.std.specs.Prelude.{ℕ}
use Rattle.cas_model.specs.declared.call.Who.{Who}
use Rattle.cas_model.specs.declared.note.Note.{Note}
use Rattle.cas_model.specs.declared.note.Stage.TheVariants.{Ref, Own, Key, Deep}

-- the digest that the call stores or loads
abbrev pub own_note : Who → Note
own_note who = record { who = who; stage = Own }

-- the call's reference at this index
abbrev pub ref_note : Who → ℕ → Note
ref_note who i = record { who = who; stage = Ref i }

-- the key that the call puts or gets
abbrev pub key_note : Who → Note
key_note who = record { who = who; stage = Key }

-- an object that the call brings in
abbrev pub deep_note : Who → Note
deep_note who = record { who = who; stage = Deep }
