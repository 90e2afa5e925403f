-- A listing comes to an end: different numbers below n are at most n.
use Rattle.std.proofs.Common.{ℕ, ◌^◌, List, get_or, eqb, arith}
use Rattle.std.proofs.lemmas.Bool.{eqb-true}
use Rattle.std.proofs.lemmas.Bool.Decides.{Decides-eqb}
use Rattle.std.proofs.lemmas.List.{get_or_default}
use Rattle.std.proofs.lemmas.List.Folds.{Any-from_list_any}
use Rattle.std.proofs.lemmas.Map.Made.{IsDistinct-from_AllPairs}
use Rattle.std.proofs.lemmas.Map.Steps.{length-le_from_distinct_below}
use Rattle.rules.specs.Listing.{listing}
use Rattle.rules.specs.Theorems.{ListingEnds}
use Rattle.rules.proofs.Listing.{listed_reached, no_repeats}

pub listing_ends : ListingEnds
listing_ends f ts start b small =
    let n = 2 ^ b in
    let l : List ℕ = listing f ts start n in
    length-le_from_distinct_below l n (IsDistinct-from_AllPairs Decides-eqb l (no_repeats f ts start n)) (λ q among.
    let (k, x, lt, at, same) = Any-from_list_any (eqb q) l among in
    let (way, on) = listed_reached f ts start n k lt in
    omega (arith, small way (get_or l k 0) on, get_or_default l k x 0 lt, at, eqb-true q x same))
