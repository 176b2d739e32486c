-- Cases of a Boolean. Assumes nothing.
use mathlib.Core.Bool.{Bool, true, false, cond}
use mathlib.Core.Path.{◌≡◌, refl}

-- a Boolean's two cases, with the equation
pub split : (P : Bool → Type 0) (b : Bool) → (b ≡ true → P true) → (b ≡ false → P false) → P b
split P true t f = t refl
split P false t f = f refl

pub if_map : {A B : Type 0} (f : A → B) (b : Bool) {x y : A} {u v : B} → f x ≡ u → f y ≡ v → f (cond b x y) ≡ cond b u v
if_map f true p q = p
if_map f false p q = q
