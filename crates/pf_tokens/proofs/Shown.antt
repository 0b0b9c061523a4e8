-- What is told of bytes.
use Rattle.std.proofs.Common.{◌≡◌, Bool, true, false, List, [], ℕ, refl, if◌then◌else◌}
use Rattle.std.specs.Str.{IsUtf8, is_utf8}
use Rattle.std.proofs.lemmas.Str.{IsUtf8-from_is_utf8, is_utf8-from_IsUtf8}
use Rattle.pf_tokens.specs.Places.{shown}

pub shown-text : (bytes : List ℕ) → IsUtf8 bytes → shown bytes ≡ bytes
shown-text bytes is = rw (is_utf8-from_IsUtf8 bytes is) refl

no_text : (test : Bool) (bytes : List ℕ) → is_utf8 bytes ≡ test → (IsUtf8 bytes → ⊥) → (if test then bytes else []) ≡ []
no_text true bytes is refuses = absurd (refuses (IsUtf8-from_is_utf8 bytes is))
no_text false bytes is refuses = refl

pub shown-none : (bytes : List ℕ) → (IsUtf8 bytes → ⊥) → shown bytes ≡ []
shown-none bytes refuses = no_text (is_utf8 bytes) bytes refl refuses
