-- Where hosts stand among a file's tokens (pf.conf(5), GRAMMAR): behind `from` and `to`, and in the lists of tables.
use Rattle.std.specs.Prelude.{◌+◌, ◌-◌, ◌==◌, nat_lt, ◌&&◌, ◌||◌, not, Bool, true, false, codes, if◌then◌else◌}
use Rattle.pf_tokens.specs.declared.token.Token.{Token}
use Rattle.pf_tokens.specs.Words.{is_word, is_symbol, is_newline}
use Rattle.pf_values.specs.declared.interfaces.hosts.{Within.Within, Within.TheVariants.{Nothing, Side, Table, Load}, Context.Context}

abbrev pub same_within : Within → Within → Bool
same_within Nothing Nothing = true
same_within Side Side = true
same_within Table Table = true
same_within Load Load = true
same_within _ _ = false

-- before a file's first token
abbrev pub beginning : Context
beginning = record { within = Nothing; deep = 0; is_bound = false }

-- whether the next token may begin a host
abbrev pub takes_host : Context → Bool
takes_host c = not c.is_bound && (nat_lt 0 c.deep || same_within c.within Side)

-- whether a list of hosts may begin here
abbrev pub takes_list : Context → Bool
takes_list c = same_within c.within Side || same_within c.within Table

-- what comes behind a token outside lists
abbrev pub within_after : Within → Token → Within
within_after w t =
    if is_newline t then Nothing
    else if same_within w Load then Load
    else if is_word (codes "from") t || is_word (codes "to") t then Side
    else if is_word (codes "load") t then Load
    else if same_within w Table || is_word (codes "table") t then Table
    else Nothing

-- behind the last host of a side there are no more
abbrev pub within_closed : Context → Within
within_closed c = if (c.deep == 1) && same_within c.within Side then Nothing else c.within

-- behind a token that is no part of a mention
unfoldable pub context_after : Token → Context → Context
context_after t c =
    if is_symbol (codes "{") t && takes_list c then record { within = c.within; deep = c.deep + 1; is_bound = false }
    else if c.deep == 0 then record { within = within_after c.within t; deep = 0; is_bound = false }
    else if is_symbol (codes "}") t then record { within = within_closed c; deep = c.deep - 1; is_bound = false }
    else record { within = c.within; deep = c.deep; is_bound = is_symbol (codes "<") t || is_symbol (codes "!") t }

-- behind a host that stands alone there are no more
abbrev pub context_after_host : Context → Context
context_after_host c = if c.deep == 0 then beginning else c
