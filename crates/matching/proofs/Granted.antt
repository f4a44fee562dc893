-- What a call's answer tells of the fault that it is made from.
use Rattle.std.proofs.Common.{◌≡◌, Some, None, Ok, Err, Option, refl}
use Rattle.lists.specs.Order.{granted}

module _ {X F : Type 0} where
  pub granted_ok : (o : Option F) (x y : X) → Ok y ≡ granted o x → o ≡ None
  granted_ok None x y e = refl
  granted_ok (Some f) x y e = cc

  pub granted_err : (o : Option F) (x : X) (f : F) → Err f ≡ granted o x → o ≡ Some f
  granted_err None x f e = cc
  granted_err (Some h) x f e = cc

  pub ok_granted : (o : Option F) (x : X) → o ≡ None → Ok x ≡ granted o x
  ok_granted o x e = rw e refl

  pub err_granted : (o : Option F) (x : X) (f : F) → o ≡ Some f → Err f ≡ granted o x
  err_granted o x f e = rw e refl
