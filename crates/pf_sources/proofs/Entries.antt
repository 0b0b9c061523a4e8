-- Entries of a table, one after another.
use Rattle.std.proofs.Common.{◌≡◌, List, [], ◌∷◌, ◌++◌, map, sym, ap, ◌∙◌, append_assoc, append-nil}
use Rattle.std.proofs.lemmas.List.{map-append}
use Rattle.pf_table.specs.Entries.{PlainEntry}
use Rattle.pf_tokens.specs.declared.place.Place.{Place}
use Rattle.pf_parse.specs.declared.tree.Entry.{Entry}
use Rattle.pf_sources.specs.Tables.{entry_at}

-- what was pushed so far: some of the entries; the others are left
pub record PushedSome (p : Place) (all left : List PlainEntry) (es : List Entry) : Type 0 where
  pub some : List PlainEntry
  pub whole : some ++ left ≡ all
  pub pushed : es ≡ map (entry_at p) some

pub one_more_entry : (p : Place) (all left rest : List PlainEntry) (e : PlainEntry) (es new : List Entry) → left ≡ e ∷ rest → PushedSome p all left es → new ≡ es ++ entry_at p e ∷ [] → PushedSome p all rest new
one_more_entry p all left rest e es new is so_far next =
    record {
      some = so_far.some ++ e ∷ [];
      whole = append_assoc so_far.some (e ∷ []) rest ∙ ap (λ (l : List PlainEntry). so_far.some ++ l) (sym is) ∙ so_far.whole;
      pushed = next ∙ ap (λ (l : List Entry). l ++ entry_at p e ∷ []) so_far.pushed ∙ sym (map-append (entry_at p) so_far.some (e ∷ []));
    }

pub all_entries : (p : Place) (all left : List PlainEntry) (es : List Entry) → left ≡ [] → PushedSome p all left es → es ≡ map (entry_at p) all
all_entries p all left es none so_far =
    so_far.pushed ∙ ap (λ (l : List PlainEntry). map (entry_at p) l) (sym (append-nil so_far.some) ∙ ap (λ (l : List PlainEntry). so_far.some ++ l) (sym none) ∙ so_far.whole)
