-- What is known before a file's first token.
use Rattle.std.specs.{Prelude.{◌-◌, true, Bool, List, [], length, Option, Some, None}, List.slice_get}
use Rattle.pf_tokens.specs.declared.{place.Place.Place, token.Token.Token}
use Rattle.pf_tokens.specs.Places.{start_of}
use Rattle.pf_parse.specs.declared.{parser.Mode.Mode, tree.Tree.Tree}
use Rattle.pf_parse.specs.declared.parser.Rank.TheVariants as ranks
use Rattle.pf_parse.specs.States.{State}

abbrev pub no_tree : Tree
no_tree = record { skips = []; rules = []; braces = []; tables = []; loads = [] }

abbrev pub place_of : Option Token → Place
place_of None = start_of 0
place_of (Some t) = t.place

-- where the last token stands
abbrev pub end_of : List Token → Place
end_of ts = place_of (slice_get ts (length ts - 1))

-- before a file's first token
abbrev pub beginning : List Token → Mode → Bool → State
beginning ts mode is_main =
    record {
      left = ts;
      end_place = end_of ts;
      mode = mode;
      is_main = is_main;
      rank = ranks.Options;
      is_ordered = true;
      within = 0;
      depth = 0;
      tree = no_tree;
      notes = [];
    }
