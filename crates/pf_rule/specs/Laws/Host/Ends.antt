-- The words written for the two ends spell them, and their text, part by part.
use Rattle.std.proofs.{Common.{◌≡◌, ℕ, List, [], ◌∷◌, ◌++◌, Some, None, inl, inr, refl, ap, ◌∙◌}, lemmas.List.Folds.list_all-append}
use Rattle.std.specs.Prelude.{codes}
use Rattle.pf_rule.specs.{Value.Ports.port_words, Laws.Value.Ports.port_written, Value.Spacing.{is_word, spaced, spaced-append}, Value.Written.{Written, both}, Host.Hosts.host_words, Laws.Host.Hosts.host_written, Host.Ends.{End, IsEnd, end, destination, ends, end_words, from_to_words, ends_words}}
use Rattle.pf_rule.specs.declared.host.host.Host.TheVariants.{Any, Net, Table}

end_written : (e : End) → IsEnd e → Written end e (end_words e)
unfolding end
end_written e is = both (host_written e.0 is.0) (port_written e.1 is.1)

from_to : (s d : End) → IsEnd s → IsEnd d → Written ends (s, d) (from_to_words s d)
unfolding ends destination
from_to s d p q =
    let first = end_written s p in
    let second = end_written d q in
    record {
      spells = inr (inl (_, (end_words s, codes "to" ∷ end_words d, first.spells, inl (end_words d, second.spells, refl), refl), refl));
      words = rw (list_all-append is_word (end_words s) (codes "to" ∷ end_words d), first.words, second.words) refl;
    }

pub ends_written : (s d : End) → IsEnd s → IsEnd d → Written ends (s, d) (ends_words s d)
unfolding ends
ends_written (Any, None) (Any, None) p q = record { spells = inl ([], (refl, refl), refl); words = refl }
ends_written (Any, None) (Any, Some t) p q = from_to (Any, None) (Any, Some t) p q
ends_written (Any, None) (Net n b, t) p q = from_to (Any, None) (Net n b, t) p q
ends_written (Any, None) (Table n b, t) p q = from_to (Any, None) (Table n b, t) p q
ends_written (Any, Some t) d p q = from_to (Any, Some t) d p q
ends_written (Net n b, t) d p q = from_to (Net n b, t) d p q
ends_written (Table n b, t) d p q = from_to (Table n b, t) d p q

-- the text of one end, and of both
abbrev pub end_text : End → List ℕ
end_text e = spaced (host_words e.0) ++ spaced (port_words e.1)

pub ends_in_order : (source destination : End) → spaced (from_to_words source destination) ≡ codes " from" ++ (end_text source ++ (codes " to" ++ end_text destination))
ends_in_order source destination =
    let each : (e : End) → spaced (end_words e) ≡ end_text e = λ e. spaced-append (host_words e.0) (port_words e.1) in
    let following : spaced (codes "to" ∷ end_words destination) ≡ codes " to" ++ end_text destination = spaced-append (codes "to" ∷ []) (end_words destination) ∙ ap (λ (t : List ℕ). codes " to" ++ t) (each destination) in
    spaced-append (codes "from" ∷ []) (end_words source ++ codes "to" ∷ end_words destination)
    ∙ ap (λ (t : List ℕ). codes " from" ++ t) (spaced-append (end_words source) (codes "to" ∷ end_words destination) ∙ rw (each source, following) refl)
