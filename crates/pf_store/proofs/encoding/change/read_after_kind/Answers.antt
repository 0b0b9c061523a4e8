use Rattle.std.proofs.Common.{sym, subst}
use Rattle.pf_form.specs.Bytes.Readers.{Gives}
use Rattle.pf_store.specs.Groups.{plain_record}
use Rattle.pf_store.proofs.ByKind.{commits, adds, deletes, sets, acts, removes, opens, expires, none}
use Rattle.pf_store.proofs.encoding.change.read_after_kind.Goals as goal

pub returns-then-kind-eq-COMMIT : goal.returns-then-kind-eq-COMMIT
returns-then-kind-eq-COMMIT c = subst (λ read. Gives plain_record c.read_commit.result c.read_commit.new.from.now read) (sym (commits c.args.version c.args.kind c.args.from.now.now c.if-kind-eq-COMMIT.true)) c.read_commit.ensures

pub returns-then-kind-eq-ADD : goal.returns-then-kind-eq-ADD
returns-then-kind-eq-ADD c = subst (λ read. Gives plain_record c.read_add.result c.read_add.new.from.now read) (sym (adds c.args.version c.args.kind c.args.from.now.now c.if-kind-eq-ADD.true)) c.read_add.ensures

pub returns-then-kind-eq-DELETE : goal.returns-then-kind-eq-DELETE
returns-then-kind-eq-DELETE c = subst (λ read. Gives plain_record c.read_delete.result c.read_delete.new.from.now read) (sym (deletes c.args.version c.args.kind c.args.from.now.now c.if-kind-eq-DELETE.true)) c.read_delete.ensures

pub returns-then-kind-eq-SET : goal.returns-then-kind-eq-SET
returns-then-kind-eq-SET c = subst (λ read. Gives plain_record c.read_set.result c.read_set.new.from.now read) (sym (sets c.args.version c.args.kind c.args.from.now.now c.if-kind-eq-SET.true)) c.read_set.ensures

pub returns-then-kind-eq-STATES : goal.returns-then-kind-eq-STATES
returns-then-kind-eq-STATES c = subst (λ read. Gives plain_record c.read_state_steps.result c.read_state_steps.new.from.now read) (sym (acts c.args.version c.args.kind c.args.from.now.now c.if-kind-eq-STATES.true)) c.read_state_steps.ensures

pub returns-then-kind-eq-REMOVE : goal.returns-then-kind-eq-REMOVE
returns-then-kind-eq-REMOVE c = subst (λ read. Gives plain_record c.read_removal.result c.read_removal.new.from.now read) (sym (removes c.args.version c.args.kind c.args.from.now.now c.if-kind-eq-REMOVE.true)) c.read_removal.ensures

pub returns-then-kind-eq-OPEN : goal.returns-then-kind-eq-OPEN
returns-then-kind-eq-OPEN c = subst (λ read. Gives plain_record c.read_opening.result c.read_opening.new.from.now read) (sym (opens c.args.version c.args.kind c.args.from.now.now c.if-kind-eq-OPEN.true)) c.read_opening.ensures

pub returns-then-kind-eq-EXPIRE : goal.returns-then-kind-eq-EXPIRE
returns-then-kind-eq-EXPIRE c = subst (λ read. Gives plain_record c.read_expire.result c.read_expire.new.from.now read) (sym (expires c.args.version c.args.kind c.args.from.now.now c.if-kind-eq-EXPIRE.true)) c.read_expire.ensures

pub returns : goal.returns
returns c =
    none c.args.version c.args.kind c.args.from.now.now c.if-kind-eq-COMMIT.false c.if-kind-eq-ADD.false c.if-kind-eq-DELETE.false c.if-kind-eq-SET.false
    c.if-kind-eq-STATES.false c.if-kind-eq-REMOVE.false c.if-kind-eq-OPEN.false c.if-kind-eq-EXPIRE.false
