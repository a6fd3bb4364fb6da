-- Of proper flags no bytes give no removal, and others one row, where it has room. Each return has its law. Assumes nothing.
use Rattle.std.proofs.Common.{refl, sym, ◌∙◌, arith}
use Rattle.records_spec.specs.Flags.{id_of, owner_of}
use Rattle.splitting_spec.proofs.Calls.{key_none, key_put, key_short, key_bad, key_proper}
use Rattle.splitting.proofs.key.split_key_removed_bytes.Goals as goal

pub returns-then-not-is_proper : goal.returns-then-not-is_proper
returns-then-not-is_proper c = key_bad _ _ _ (sym c.if-not-is_proper.ensures)

pub returns-then-removed_key_bytes-eq0 : goal.returns-then-removed_key_bytes-eq0
returns-then-removed_key_bytes-eq0 c =
    key_none _ _ _ _ c.if-removed_key_bytes-eq0.true
    ∙ key_proper _ _ _ (id_of (owner_of c.args.flags)) refl (sym c.if-not-is_proper.ensures)

pub returns-then-not-rows_fit : goal.returns-then-not-rows_fit
returns-then-not-rows_fit c =
    key_short _ _ _ _ (omega arith) (sym c.if-not-rows_fit.ensures)
    ∙ key_proper _ _ _ (id_of (owner_of c.args.flags)) refl (sym c.if-not-is_proper.ensures)

pub returns : goal.returns
returns c =
    key_put _ _ _ _ (omega arith) (sym c.if-not-rows_fit.ensures) c.put_row.ensures
    ∙ key_proper _ _ _ c.id_of.result c.id_of.ensures (sym c.if-not-is_proper.ensures)
