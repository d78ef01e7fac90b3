-- The floor of the first band that applies, as `find` gives that band.
use Rattle.std.proofs.Common.{◌≡◌, ℕ, true, false, cond, List, [], ◌∷◌, Some, None, Option, refl, sym, ap, ◌∙◌}
use Rattle.std.specs.List.{find}
use Rattle.std.specs.Option.{option_map}
use Rattle.rates.specs.declared.bands.Band.{Band}
use Rattle.rates.specs.declared.rate_book.Quote.{Quote}
use Rattle.rates.specs.Bands.{applies, share_of, first_floor}

mapped_twice : {X : Type 0} (v : X → Band) (f : Band → ℕ) (o : Option X) → option_map f (option_map v o) ≡ option_map (λ x. f (v x)) o
mapped_twice v f None = refl
mapped_twice v f (Some x) = refl

first_floor_is : (bands : List Band) (q : Quote) → first_floor bands q ≡ option_map (λ b. share_of b.floor q) (find (λ b. applies b q) bands)
first_floor_is [] q = refl
first_floor_is (band ∷ bands) q =
    elim (applies band q) as (λ t. cond t (Some (share_of band.floor q)) (first_floor bands q) ≡ option_map (λ b. share_of b.floor q) (cond t (Some band) (find (λ b. applies b q) bands)))
    [ true ↦ refl | false ↦ first_floor_is bands q ]

pub first_floor_found : {X : Type 0} (v : X → Band) (bands : List Band) (q : Quote) {found o : Option X} → found ≡ o → option_map v found ≡ find (λ b. applies b q) bands → first_floor bands q ≡ option_map (λ x. share_of (v x).floor q) o
first_floor_found v bands q {found} {o} is e =
    first_floor_is bands q
    ∙ ap (option_map (λ b. share_of b.floor q)) (sym e)
    ∙ ap (λ o. option_map (λ b. share_of b.floor q) (option_map v o)) is
    ∙ mapped_twice v (λ b. share_of b.floor q) o
