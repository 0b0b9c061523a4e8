use Rattle.std.proofs.Common.{◌≡◌, ◌==◌, ◌/◌, ◌^◌, filter, map, take}
use Rattle.pf_trie.specs.Rows.{IsInOrder, cut_row}
use Rattle.pf_trie.proofs.in_order.rows_within.Given as goal

abbrev pub invariant-loop-place : goal.invariant-loop-place
invariant-loop-place l = IsInOrder l.rows → l.within ≡ map (cut_row l.at) (filter (λ r. r.first / 2 ^ l.at == l.front) (take l.place l.rows))
