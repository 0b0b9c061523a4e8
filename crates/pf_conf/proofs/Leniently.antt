-- What is taken strictly is taken leniently, of all files.
use Rattle.std.proofs.Common.{◌≡◌, ℕ, Bool, zero, suc, ◌+◌, List, Option, Some, None, Result, Ok, Err, refl}
use Rattle.std.specs.List.{slice_get}
use Rattle.pf_form.specs.Form.Forms.{◌>>=◌}
use Rattle.pf_tokens.specs.declared.{files.File.File, files.TheConstants.READING_LIMIT, flat.Flat.Flat}
use Rattle.pf_tokens.specs.declared.token.Token.{Token}
use Rattle.pf_parse.specs.declared.{fault.Stop.Stop, parser.Mode.TheVariants.{Strict, Lenient}, statements.Parsed.Parsed}
use Rattle.pf_parse.specs.{Reading.Word, Lines.parsed}
use Rattle.pf_values.specs.declared.interfaces.interface.Interface.{Interface}
use Rattle.pf_values.specs.Interfaces.Addresses.{with_addresses}
use Rattle.pf_conf.specs.declared.{fault.Spot.Spot, found.Conf.Conf, found.Found.Found, found.Mention.Mention, found.Waiting.Waiting}
use Rattle.pf_conf.specs.{Found.nothing_found, Lines.{spoof_checked, parsed_with}, Telling.{telling, first_spot}}
use Rattle.pf_conf.specs.Resolving.{is_main, room_for, with_notes, with_tree, with_flat, with_file, with_load, with_waiting, load_numbered, loads_from, after_flat, flat_of, free_for, committed, main_file, resolved}

-- the lines of a file are so
abbrev pub LinesSo : Type 0
LinesSo = (ts : List Token) (is_main : Bool) (p : Parsed) → parsed ts Strict is_main ≡ Ok p → parsed ts Lenient is_main ≡ Ok p

-- what a result leads to, leads there too from one that is the same where it is good
then_so : {A B E : Type 0} (q r : Result A E) (f g : A → Result B E) (x : B) → ((a : A) → q ≡ Ok a → r ≡ Ok a) → ((a : A) → f a ≡ Ok x → g a ≡ Ok x) → (q >>= f) ≡ Ok x → (r >>= g) ≡ Ok x
then_so (Ok a) r f g x same next is = rw (same a refl) (next a is)
then_so (Err e) r f g x same next is = absurd (cc)

lines_so : LinesSo → (interfaces : List Interface) (ts : List Token) (is_main : Bool) (p : Parsed)
    → parsed_with interfaces ts Strict is_main ≡ Ok p → parsed_with interfaces ts Lenient is_main ≡ Ok p
unfolding parsed_with
lines_so so interfaces ts is_main p is =
    then_so (spoof_checked interfaces ts) (spoof_checked interfaces ts) (λ _. parsed (with_addresses interfaces ts) Strict is_main)
    (λ _. parsed (with_addresses interfaces ts) Lenient is_main)
    p (λ u one. one) (λ u one. so (with_addresses interfaces ts) is_main p one) is

unread_so : (files : List File) (flat : Flat) (q r : Result Parsed Stop) → ((p : Parsed) → q ≡ Ok p → r ≡ Ok p) → (p : Parsed) → telling files flat.macros q ≡ Ok p → telling files flat.macros r ≡ Ok p
unread_so files flat (Ok a) r same p is = rw (same a refl) is
unread_so files flat (Err e) r same p is = absurd (cc)

flat_so : LinesSo → (files : List File) (interfaces : List Interface) (path : Word) (spot : Spot) (flat : Flat) (s t : Found)
    → with_flat files interfaces Strict path spot flat s ≡ Ok t → with_flat files interfaces Lenient path spot flat s ≡ Ok t
unfolding with_flat
flat_so so files interfaces path spot flat s t is =
    let strictly : Result Parsed Stop = parsed_with interfaces flat.tokens Strict (is_main path) in
    let leniently : Result Parsed Stop = parsed_with interfaces flat.tokens Lenient (is_main path) in
    then_so (telling files flat.macros strictly) (telling files flat.macros leniently)
    (λ (p : Parsed). room_for spot (with_notes files flat.macros p.notes s) >>= λ u. telling files flat.macros (with_tree files flat.macros path p.tree u))
    (λ (p : Parsed). room_for spot (with_notes files flat.macros p.notes s) >>= λ u. telling files flat.macros (with_tree files flat.macros path p.tree u))
    t (λ p one. unread_so files flat strictly leniently (λ q lines. lines_so so interfaces flat.tokens (is_main path) q lines) p one)
    (λ p one. one) is

file_so : LinesSo → (files : List File) (interfaces : List Interface) (path : Word) (m : Mention) (s t : Found)
    → with_file files interfaces Strict path m s ≡ Ok t → with_file files interfaces Lenient path m s ≡ Ok t
unfolding with_file
file_so so files interfaces path m s t is =
    then_so (free_for path m.at s) (free_for path m.at s)
    (λ (u : Found). flat_of files m u.files_read >>= λ flat. with_flat files interfaces Strict path m.at flat (after_flat flat u))
    (λ (u : Found). flat_of files m u.files_read >>= λ flat. with_flat files interfaces Lenient path m.at flat (after_flat flat u))
    t (λ u one. one)
    (λ u one. then_so (flat_of files m u.files_read) (flat_of files m u.files_read)
    (λ (flat : Flat). with_flat files interfaces Strict path m.at flat (after_flat flat u))
    (λ (flat : Flat). with_flat files interfaces Lenient path m.at flat (after_flat flat u))
    t (λ flat two. two) (λ flat two. flat_so so files interfaces path m.at flat (after_flat flat u) t two) one) is

load_so : LinesSo → (files : List File) (interfaces : List Interface) (m : Mention) (path : Option Word) (s t : Found)
    → with_load files interfaces Strict m path s ≡ Ok t → with_load files interfaces Lenient m path s ≡ Ok t
load_so so files interfaces m None s t is = is
load_so so files interfaces m (Some path) s t is = file_so so files interfaces path m s t is

waiting_so : LinesSo → (files : List File) (interfaces : List Interface) (w : Option Waiting) (s t : Found)
    → with_waiting files interfaces Strict w s ≡ Ok t → with_waiting files interfaces Lenient w s ≡ Ok t
waiting_so so files interfaces None s t is = is
waiting_so so files interfaces (Some w) s t is = load_so so files interfaces w.mention w.path s t is

loads_so : LinesSo → (files : List File) (interfaces : List Interface) (n more : ℕ) (s t : Found)
    → loads_from files interfaces Strict n more s ≡ Ok t → loads_from files interfaces Lenient n more s ≡ Ok t
unfolding loads_from
loads_so so files interfaces n zero s t is = is
loads_so so files interfaces n (suc more) s t is =
    then_so (load_numbered files interfaces Strict n s) (load_numbered files interfaces Lenient n s)
    (λ (u : Found). loads_from files interfaces Strict (n + 1) more u) (λ (u : Found). loads_from files interfaces Lenient (n + 1) more u)
    t (λ u one. waiting_so so files interfaces (slice_get s.waiting n) s u one)
    (λ u one. loads_so so files interfaces (n + 1) more u t one) is

pub resolved_leniently : LinesSo → (files : List File) (interfaces : List Interface) (base name : Word) (c : Conf)
    → resolved files interfaces Strict base name ≡ Ok c → resolved files interfaces Lenient base name ≡ Ok c
unfolding resolved
resolved_leniently so files interfaces base name c is =
    let file : Mention = main_file name in
    then_so (with_file files interfaces Strict base file nothing_found >>= loads_from files interfaces Strict 0 READING_LIMIT)
    (with_file files interfaces Lenient base file nothing_found >>= loads_from files interfaces Lenient 0 READING_LIMIT)
    (committed (first_spot name)) (committed (first_spot name)) c
    (λ t one. then_so (with_file files interfaces Strict base file nothing_found)
    (with_file files interfaces Lenient base file nothing_found) (loads_from files interfaces Strict 0 READING_LIMIT)
    (loads_from files interfaces Lenient 0 READING_LIMIT)
    t (λ s two. file_so so files interfaces base file nothing_found s two)
    (λ s two. loads_so so files interfaces 0 READING_LIMIT s t two) one)
    (λ t one. one) is
