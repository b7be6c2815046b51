-- What a line of a session stands for, and why one stands for nothing.
use Rattle.std.specs.Prelude.{◌≡◌, ◌⊎◌, ℕ, ◌≤◌, List, [], ◌∷◌, length, Some, None}
use Rattle.std.specs.declared.option.Option.{Option}
use Rattle.cas_model.specs.declared.digest.Digest.{Digest}
use Rattle.cas_model.specs.Object.{digest_of}
use Rattle.cas_model.specs.declared.call.Call.TheVariants as call
use Rattle.cas_history.specs.Script as history
use Rattle.cas_script.specs.declared.script.Line.{Line}
use Rattle.cas_script.specs.declared.script.Line.TheVariants.{Store, Load, Put, Get, Act}
use Rattle.cas_script.specs.declared.verb.Verb.{Verb}
use Rattle.cas_script.specs.declared.verb.Verb.TheVariants as verb
use Rattle.cas_script.specs.declared.error.LineKind.{LineKind}
use Rattle.cas_script.specs.Text.{tokens_of}
use Rattle.cas_script.specs.Verbs.{verb_word}
use Rattle.cas_script.specs.Arguments.{IsName, IsNoName, IsKey, IsNoKey, IsData, IsNoData, AreNames, AreNoNames}

-- the line as its calls are told over a history
abbrev pub history_line : Line → history.Line
history_line (Store refs bytes) = history.Once (call.Store (record { refs = refs; «data» = bytes }))
history_line (Load digest) = history.Once (call.Load digest)
history_line (Put key value) = history.Once (call.Put key value)
history_line (Get key) = history.Once (call.Get key)
history_line (Act key refs bytes) = history.Action key (record { refs = refs; «data» = bytes })

-- the digest of the object that a line stores, if it is a `store` or `act` line
abbrev pub stored_by : Line → Option Digest
stored_by (Store refs bytes) = Some (digest_of refs bytes)
stored_by (Load digest) = None
stored_by (Put key value) = None
stored_by (Get key) = None
stored_by (Act key refs bytes) = Some (digest_of refs bytes)

-- the word of a line
abbrev pub verb_of : Line → Verb
verb_of (Store refs bytes) = verb.Store
verb_of (Load digest) = verb.Load
verb_of (Put key value) = verb.Put
verb_of (Get key) = verb.Get
verb_of (Act key refs bytes) = verb.Act

-- at most 65,535 tokens, each an id or reference
abbrev pub AreRefs : List (Option Digest) → List (List ℕ) → List Digest → Type 0
AreRefs stored tokens refs = (length tokens ≤ 65535) × AreNames stored tokens refs

-- the arguments of a line, token by token
abbrev pub AreArguments : List (Option Digest) → List (List ℕ) → Line → Type 0
AreArguments stored (first ∷ rest) (Store refs bytes) = IsData first bytes × AreRefs stored rest refs
AreArguments stored (first ∷ []) (Load digest) = IsName stored first digest
AreArguments stored (first ∷ second ∷ []) (Put key value) = IsKey stored first key × IsName stored second value
AreArguments stored (first ∷ []) (Get key) = IsKey stored first key
AreArguments stored (first ∷ second ∷ rest) (Act key refs bytes) =
    IsKey stored first key × IsData second bytes × AreRefs stored rest refs
AreArguments stored _ _ = ⊥

-- the text is this line, where the lines before it in its session have stored objects with these digests
pub record IsLine (stored : List (Option Digest)) (text : List ℕ) (line : Line) : Type 0 where
  pub arguments : List (List ℕ)
  pub tokens : tokens_of text ≡ verb_word (verb_of line) ∷ arguments
  pub are : AreArguments stored arguments line

-- the first argument from the left that stands for nothing does so for this reason
abbrev pub AreNoArguments : List (Option Digest) → Verb → List (List ℕ) → LineKind → Type 0
AreNoArguments stored verb.Store (first ∷ rest) kind =
    IsNoData first kind ⊎ (((bytes : List ℕ) × IsData first bytes) × AreNoNames stored rest kind)
AreNoArguments stored verb.Load (first ∷ rest) kind = IsNoName stored first kind
AreNoArguments stored verb.Put (first ∷ second ∷ rest) kind =
    IsNoKey stored first kind ⊎ (((key : Digest) × IsKey stored first key) × IsNoName stored second kind)
AreNoArguments stored verb.Get (first ∷ rest) kind = IsNoKey stored first kind
AreNoArguments stored verb.Act (first ∷ second ∷ rest) kind =
    IsNoKey stored first kind ⊎ (((key : Digest) × IsKey stored first key)
    × (IsNoData second kind ⊎ (((bytes : List ℕ) × IsData second bytes) × AreNoNames stored rest kind)))
AreNoArguments stored _ _ kind = ⊥

-- the line has this word and these arguments
pub record IsLineOf (stored : List (Option Digest)) (verb : Verb) (arguments : List (List ℕ)) (line : Line) : Type 0 where
  pub word : verb_of line ≡ verb
  pub are : AreArguments stored arguments line
