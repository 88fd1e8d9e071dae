-- A list whose image is put together from parts is put together from parts itself.
use Rattle.std.proofs.Common.{◌≡◌, List, [], ◌∷◌, ◌++◌, map, length, get_or, refl, ap, arith}

pub record Parts {X Y : Type 0} (f : X → Y) (zs : List X) (xs ys : List Y) : Type 0 where
  pub left : List X
  pub right : List X
  pub is : zs ≡ left ++ right
  pub left_is : map f left ≡ xs
  pub right_is : map f right ≡ ys

pub parts_of : {X Y : Type 0} (f : X → Y) (zs : List X) (xs ys : List Y) → map f zs ≡ xs ++ ys → Parts f zs xs ys
parts_of f zs [] ys e = record { left = []; right = zs; is = refl; left_is = refl; right_is = e }
parts_of f [] (x ∷ xs) ys e = absurd (omega (arith, ap length e))
parts_of f (z ∷ zs) (x ∷ xs) ys e =
    let p = parts_of f zs xs ys (cc) in
    record { left = z ∷ p.left; right = p.right; is = ap (λ t. z ∷ t) p.is; left_is = cc (p.left_is); right_is = p.right_is }

pub record Front {X Y : Type 0} (f : X → Y) (zs : List X) (y : Y) (ys : List Y) : Type 0 where
  pub first : X
  pub rest : List X
  pub is : zs ≡ first ∷ rest
  pub first_is : f first ≡ y
  pub rest_is : map f rest ≡ ys

pub front_of : {X Y : Type 0} (f : X → Y) (zs : List X) (y : Y) (ys : List Y) → map f zs ≡ y ∷ ys → Front f zs y ys
front_of f [] y ys e = absurd (omega (arith, ap length e))
front_of f (z ∷ zs) y ys e = record { first = z; rest = zs; is = refl; first_is = cc; rest_is = cc }

pub middle_of : {X : Type 0} (xs : List X) (y : X) (ys : List X) (d : X) → get_or (xs ++ y ∷ ys) (length xs) d ≡ y
middle_of [] y ys d = refl
middle_of (x ∷ xs) y ys d = middle_of xs y ys d
