-- The goals of `migrate` that are answered by hand.
use Rattle.std.proofs.Common.{◌≡◌, ◌⊎◌, List, Err, sym, subst, ◌∙◌, rules}
use Rattle.std.specs.Prelude.{MatchResult}
use Rattle.bg_types.specs.declared.op.OpView.{OpView}
use Rattle.op_codec.specs.declared.fault.CodecFault.TheVariants.{Malformed, Memory}
use Rattle.op_codec.specs.declared.position.Version.TheVariants.{Two}
use Rattle.op_codec.specs.Spelling.{SpellsIn}
use Rattle.op_codec.proofs.migration.migrate.Goals as goal

pub returns-in_err-ops-clause-spelled : goal.returns-in_err-ops-clause-spelled
returns-in_err-ops-clause-spelled c =
    λ ops spelled. (let fault = c.in_err-ops.field-0.0 in
    let is : c.from_residual.result ≡ Err fault = search rules in
    subst (λ r. MatchResult r (λ migrated. SpellsIn Two migrated.items ops) (λ f. f ≡ Memory)) (sym is) (c.in_err-ops.ensures.spelled ops spelled))

pub returns-in_err-ops-clause-faulty : goal.returns-in_err-ops-clause-faulty
returns-in_err-ops-clause-faulty c =
    λ frame cause first. (let fault = c.in_err-ops.field-0.0 in
    let is : c.from_residual.result ≡ Err fault = search rules in
    subst (λ r. MatchResult r (λ _. ⊥) (λ f. (f ≡ Malformed frame cause) ⊎ (f ≡ Memory))) (sym is) (c.in_err-ops.ensures.faulty frame cause first))

pub returns-clause-spelled : goal.returns-clause-spelled
returns-clause-spelled c =
    λ ops spelled. subst (λ (xs : List OpView). SpellsIn Two c.in_ok-encode_file_v2.field-0.items xs) (c.deref.ensures.value ∙ c.in_ok-ops.ensures.spelled ops spelled) c.in_ok-encode_file_v2.ensures.spelled
