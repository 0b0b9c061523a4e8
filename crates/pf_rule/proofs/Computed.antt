-- The texts, the forms and the checksums of the examples, computed.
use Rattle.std.proofs.Common.{◌≡◌, [], ◌∷◌, Ok, refl}
use Rattle.std.specs.Prelude.{codes, map}
use Rattle.md5.specs.Md5.{md5, hash_after, digest_bytes, compress, rounds, block_words}
use Rattle.pf_addr.specs.Reading.{part_at, pieces_at, v4_at, address_at}
use Rattle.pf_form.specs.Form.{Words.words_of, Forms.read_all}
use Rattle.pf_rule.specs.declared.host.host.Host.TheVariants.{Any}
use Rattle.pf_rule.specs.{Value.Tests.{direction, interface, family, protocol}, Value.Ports.{port, port_test, order_or_range, compared, ranged, range_end, ports_fit}, Host.Hosts.{a_negated_host, a_host, host}, Host.Ends.{end, destination, ends}, RuleGrammar.{rule, opening, state, label}, Sum.Forms.{filled, host_form, rule_form, whole_form, ruleset_sum}}
use Rattle.pf_rule.specs.Laws.Sums as example

-- the four texts and the four forms
pub texts : (read_all rule (words_of (codes "block in all")) ≡ Ok (Ok example.block))
    × (read_all rule (words_of (codes "pass in all")) ≡ Ok (Ok example.pass))
    × (read_all rule (words_of (codes "anchor \"a/*\" all")) ≡ Ok (Ok example.anchor))
    × (read_all rule (words_of (codes "pass out quick on em0 proto tcp from !10/8 port 1024:2048 to <web> port 80 no state")) ≡ Ok (Ok example.tested))
unfolding rule opening state direction interface family protocol a_negated_host a_host host port port_test order_or_range compared ranged range_end end destination ends label part_at pieces_at v4_at address_at ports_fit
texts = (refl, refl, refl, refl)

pub forms : (rule_form example.block ≡ example.block_form) × (rule_form example.pass ≡ example.pass_form)
    × (rule_form example.anchor ≡ example.anchor_form) × (rule_form example.tested ≡ example.tested_form)
unfolding rule_form host_form filled
forms = (refl, refl, refl, refl)

pub v6_form : rule_form example.v6 ≡ example.v6_form
unfolding rule_form host_form filled
v6_form = refl

pub ports_form : map (host_form Any) example.port_tests ≡ example.tested_hosts
unfolding host_form filled
ports_form = refl

pub none_sum : ruleset_sum [] ≡ example.sum_of_none
unfolding ruleset_sum md5 hash_after digest_bytes compress rounds block_words
none_sum = refl

pub block_sum : ruleset_sum (example.block ∷ []) ≡ example.sum_of_block
unfolding ruleset_sum rule_form host_form filled md5 hash_after digest_bytes compress rounds block_words
block_sum = refl

pub four_sum : ruleset_sum example.all_four ≡ example.sum_of_four
unfolding ruleset_sum rule_form host_form filled md5 hash_after digest_bytes compress rounds block_words
four_sum = refl

pub labelled_texts : (read_all rule (words_of (codes "block in all label \"x\"")) ≡ Ok (Ok example.labelled))
    × (read_all rule (words_of (codes "block in label x")) ≡ Ok (Ok example.labelled))
unfolding rule opening state direction interface family protocol a_negated_host a_host host port port_test order_or_range compared ranged range_end end destination ends label part_at pieces_at v4_at address_at ports_fit
labelled_texts = (refl, refl)

pub labelled_form : whole_form example.labelled ≡ example.labelled_form
unfolding rule_form host_form filled
labelled_form = refl

pub labelled_sum : ruleset_sum (example.labelled ∷ []) ≡ example.sum_of_labelled
unfolding ruleset_sum rule_form host_form filled md5 hash_after digest_bytes compress rounds block_words
labelled_sum = refl
