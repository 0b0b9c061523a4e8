use Rattle.std.proofs.Common.{◌++◌, ◌∷◌, [], ℕ, List, get_or, replicate, ap, ◌∙◌}
use Rattle.std.specs.{Prelude.{Result, Ok, Err, OnOk}, Int.{w16, w32, w64, to_be_bytes}}
use Rattle.pf_form.specs.Bytes.BasicForms.{number_bytes}
use Rattle.pf_state.specs.Layouts.States.{name_form}
use Rattle.pf_state.proofs.Pieced.{state_pieces}
use Rattle.pf_state.proofs.layouts.state.push_named_v4.Goals as goal

mapped : {A E P Q : Type 0} (r : Result A E) → (P → Q) → OnOk r P → OnOk r Q
mapped (Ok x) f p = f p
mapped (Err e) f p = tt

-- the bytes of all parts, appended to these one by one
abbrev put : List ℕ → ℕ → ℕ → List ℕ → List ℕ → List ℕ → List ℕ → List ℕ → List ℕ → List ℕ → List ℕ
put out direction protocol i c g s d p q =
    out ++ get_or i 0 0 ∷ get_or i 1 0 ∷ get_or i 2 0 ∷ get_or i 3 0 ∷ get_or i 4 0 ∷ get_or i 5 0 ∷ get_or i 6 0 ∷ get_or i 7 0
    ∷ get_or c 0 0 ∷ get_or c 1 0 ∷ get_or c 2 0 ∷ get_or c 3 0
    ∷ get_or g 0 0 ∷ get_or g 1 0 ∷ get_or g 2 0 ∷ get_or g 3 0 ∷ direction ∷ 4 ∷ protocol ∷ 0
    ∷ get_or s 0 0 ∷ get_or s 1 0 ∷ get_or s 2 0 ∷ get_or s 3 0 ∷ 0 ∷ 0 ∷ 0 ∷ 0 ∷ 0 ∷ 0 ∷ 0 ∷ 0 ∷ 0 ∷ 0 ∷ 0 ∷ 0
    ∷ get_or d 0 0 ∷ get_or d 1 0 ∷ get_or d 2 0 ∷ get_or d 3 0 ∷ 0 ∷ 0 ∷ 0 ∷ 0 ∷ 0 ∷ 0 ∷ 0 ∷ 0 ∷ 0 ∷ 0 ∷ 0 ∷ 0
    ∷ get_or p 0 0 ∷ get_or p 1 0 ∷ get_or q 0 0 ∷ get_or q 1 0 ∷ []

pub returns : goal.returns
unfolding number_bytes name_form
returns c =
    let out = c.args.out.now.items in
    let all = put out c.args.direction c.args.protocol in
    let id = to_be_bytes w64 c.args.name.id in
    let creator = to_be_bytes w32 c.args.name.creator in
    let generation = to_be_bytes w32 c.args.generation in
    let source = to_be_bytes w32 c.args.source.0 in
    let destination = to_be_bytes w32 c.args.destination.0 in
    let from = to_be_bytes w16 c.args.source.1 in
    let known =
    ap (λ (x : List ℕ). all x c.to_be_bytes-c.result c.to_be_bytes-g.result c.to_be_bytes-s.result c.to_be_bytes-d.result c.to_be_bytes-p.result c.to_be_bytes-q.result) c.to_be_bytes-i.ensures
    ∙ ap (λ (x : List ℕ). all id x c.to_be_bytes-g.result c.to_be_bytes-s.result c.to_be_bytes-d.result c.to_be_bytes-p.result c.to_be_bytes-q.result) c.to_be_bytes-c.ensures
    ∙ ap (λ (x : List ℕ). all id creator x c.to_be_bytes-s.result c.to_be_bytes-d.result c.to_be_bytes-p.result c.to_be_bytes-q.result) c.to_be_bytes-g.ensures
    ∙ ap (λ (x : List ℕ). all id creator generation x c.to_be_bytes-d.result c.to_be_bytes-p.result c.to_be_bytes-q.result) c.to_be_bytes-s.ensures
    ∙ ap (λ (x : List ℕ). all id creator generation source x c.to_be_bytes-p.result c.to_be_bytes-q.result) c.to_be_bytes-d.ensures
    ∙ ap (λ (x : List ℕ). all id creator generation source destination x c.to_be_bytes-q.result) c.to_be_bytes-p.ensures
    ∙ ap (λ (x : List ℕ). all id creator generation source destination from x) c.to_be_bytes-q.ensures in
    let pieces = state_pieces out (number_bytes 8 c.args.name.id) (number_bytes 4 c.args.name.creator) (number_bytes 4 c.args.generation) c.args.direction c.args.protocol
    (number_bytes 4 c.args.source.0) (replicate 12 0) (number_bytes 4 c.args.destination.0) (number_bytes 2 c.args.source.1) (number_bytes 2 c.args.destination.1)
    c.ranges.direction.fits c.ranges.protocol.fits in
    mapped c.push_bytes.result (λ is. is ∙ known ∙ pieces) c.push_bytes.ensures.constant
