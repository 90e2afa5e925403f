use Rattle.rules.proofs.Listing.{listed_reached, reached_listed, listing_stays, first_entries, no_repeats}
use Rattle.rules.proofs.Ends.{listing_ends}
use Rattle.rules.proofs.theorems.listings_find_what_is_reached.Goals as goal

pub returns : goal.returns
returns c = record {
  sound = listed_reached;
  whole = reached_listed;
  stays = listing_stays;
  first = first_entries;
  once = no_repeats;
  ends = listing_ends;
}
