use Rattle.std.proofs.Common.{[], ◌∷◌, length, refl, arith}
use Rattle.tape.proofs.Fields.{field_put}
use Rattle.tape.proofs.layout.put_field.Goals as goal

pub returns : goal.returns
returns c =
    field_put c.args.bytes.now (c.args.tag ∷ 0 ∷ length c.args.value.now ∷ []) c.args.value.now _ _ c.args.at 3 _ _ (omega arith) c.copy_from_slice.ensures.after c.copy_from_slice-2.ensures.after refl (omega arith) (omega arith)
