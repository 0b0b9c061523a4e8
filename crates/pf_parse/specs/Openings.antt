-- How rules begin (pf.conf(5), GRAMMAR): what "block" does, a direction, "log" and "quick".
use Rattle.std.specs.Prelude.{◌||◌, Bool, true, List, [], ◌∷◌, codes, Option, Some, None, if◌then◌else◌}
use Rattle.pf_tokens.specs.declared.token.Token.{Token}
use Rattle.pf_tokens.specs.Words.{is_word}
use Rattle.pf_parse.specs.declared.{openings.Direction.Direction, openings.Direction.TheVariants.{In, Out}}
use Rattle.pf_parse.specs.Reading.{Word, Reads, giving, ◌>=>◌, takes_word, leave_out_next, skip_parentheses}
use Rattle.pf_parse.specs.Lists.{looking_at}

abbrev pub returns : Token → Bool
returns t = is_word (codes "return-rst") t || (is_word (codes "return-icmp") t || is_word (codes "return-icmp6") t)

unfoldable pub skip_drop : Reads (Unit {0})
skip_drop = takes_word (codes "drop") >=> λ _. giving tt

-- what stands behind "block"
unfoldable pub block_policy : Reads (Unit {0})
block_policy =
    looking_at >=> λ t. if is_word (codes "return") t then leave_out_next
    else if returns t then (leave_out_next >=> λ _. skip_parentheses)
    else skip_drop

unfoldable pub direction : Reads (Option Direction)
direction =
    takes_word (codes "in") >=> λ is_in. if is_in then giving (Some In)
    else (takes_word (codes "out") >=> λ is_out. giving (if is_out then Some Out else None))

abbrev pub direction_words : Option Direction → List Word
direction_words None = []
direction_words (Some In) = codes "in" ∷ []
direction_words (Some Out) = codes "out" ∷ []

abbrev pub quick_words : Bool → List Word
quick_words is = if is then codes "quick" ∷ [] else []

unfoldable pub log : Reads (Unit {0})
log = looking_at >=> λ t. if is_word (codes "log") t then (leave_out_next >=> λ _. skip_parentheses) else giving tt

-- "log" stands before or behind "quick"
unfoldable pub log_and_quick : Reads Bool
log_and_quick = takes_word (codes "quick") >=> λ before. log >=> λ _. if before then giving true else takes_word (codes "quick")
