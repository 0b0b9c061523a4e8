-- The points of TAP, which are numbered through all files.
use Rattle.std.proofs.Common.{◌≡◌, ℕ, ◌+◌, ◌<◌, ◌≤◌, List, [], ◌∷◌, ◌++◌, length, take, drop, get_or, refl, sym, ap, ◌∙◌, arith}
use Rattle.std.proofs.lemmas.List.{drop_all, get_or_default, Sums.sum_by_more}
use Rattle.std.specs.Prelude.{codes}
use Rattle.pf_conf.specs.Shown.{newline}
use Rattle.pf_conf.proofs.Steps.{drop_item}
use Rattle.pfd_conf.specs.Firewalls.{Origins}
use Rattle.pfd_conf.specs.declared.{outcomes.Outcome.Outcome, outcomes.Tried.Tried}
use Rattle.pfd_conf.specs.Reports.{sayable, words_at, point_text, points_text, file_points, files_points, case_count}

-- ---- a file

-- two numbers that are told alike are followed by such
points_alike : (f : Origins) (t : Tried) (n m : ℕ) (os : List Outcome) → sayable n ≡ sayable m →
    points_text f t n os ≡ points_text f t m os
points_alike f t n m [] same = refl
points_alike f t n m (o ∷ os) same =
    let next : sayable (n + 1) ≡ sayable (m + 1) = omega (arith, same) in
    ap (λ (k : ℕ). point_text f k (words_at t o) o ++ points_text f t (n + 1) os) next
    ∙ ap (λ (l : List ℕ). point_text f (sayable (m + 1)) (words_at t o) o ++ l) (points_alike f t (n + 1) (m + 1) os next)

pub head_of : (f : Origins) (t : Tried) (before : ℕ) →
    file_points f before t ≡ codes "# " ++ t.name.now ++ newline ++ points_text f t (before + 0) (drop 0 t.outcomes)
head_of f t before =
    let at : before ≡ before + 0 = omega arith in
    ap (λ (n : ℕ). codes "# " ++ t.name.now ++ newline ++ points_text f t n t.outcomes) at

pub point_of : (f : Origins) (t : Tried) (before i number : ℕ) (d : Outcome) (os : List Outcome) → i < length os →
    number ≡ sayable (before + i + 1) →
    points_text f t (before + i) (drop i os)
    ≡ point_text f number (words_at t (get_or os i d)) (get_or os i d) ++ points_text f t (before + (i + 1)) (drop (i + 1) os)
point_of f t before i number d os within is =
    let on : before + i + 1 ≡ before + (i + 1) = omega arith in
    let o : Outcome = get_or os i d in
    ap (points_text f t (before + i)) (drop_item os i o within (get_or_default os i d o within))
    ∙ ap (λ (n : ℕ). point_text f n (words_at t o) o ++ points_text f t (before + i + 1) (drop (i + 1) os)) (sym is)
    ∙ ap (λ (n : ℕ). point_text f number (words_at t o) o ++ points_text f t n (drop (i + 1) os)) on

pub no_point_of : (f : Origins) (t : Tried) (before i : ℕ) (os : List Outcome) → length os ≤ i →
    points_text f t (before + i) (drop i os) ≡ []
no_point_of f t before i os past = ap (points_text f t (before + i)) (drop_all i os past)

-- ---- all files

pub count_of : (ts : List Tried) (i : ℕ) (t : Tried) → i < length ts → t ≡ get_or ts i t →
    case_count (take (i + 1) ts) ≡ case_count (take i ts) + length t.outcomes
count_of ts i t within here =
    sum_by_more (λ (u : Tried). length u.outcomes) ts i t within ∙ ap (λ (u : Tried). case_count (take i ts) + length u.outcomes) (sym here)

pub file_of : (f : Origins) (ts : List Tried) (i count : ℕ) (t : Tried) → i < length ts → t ≡ get_or ts i t →
    count ≡ sayable (case_count (take i ts)) →
    files_points f (case_count (take i ts)) (drop i ts) ≡ file_points f count t ++ files_points f (case_count (take (i + 1) ts))
    (drop (i + 1) ts)
file_of f ts i count t within here is =
    let before = case_count (take i ts) in
    let same : sayable (case_count (take i ts)) ≡ sayable count = omega (arith, is) in
    ap (files_points f before) (drop_item ts i t within here)
    ∙ ap (λ (n : ℕ). file_points f before t ++ files_points f n (drop (i + 1) ts)) (sym (count_of ts i t within here))
    ∙ ap (λ (l : List ℕ). codes "# " ++ t.name.now ++ newline ++ l ++ files_points f (case_count (take (i + 1) ts)) (drop (i + 1) ts))
    (points_alike f t before count t.outcomes same)

pub no_file_of : (f : Origins) (ts : List Tried) (before i : ℕ) → length ts ≤ i → files_points f before (drop i ts) ≡ []
no_file_of f ts before i past = ap (files_points f before) (drop_all i ts past)
