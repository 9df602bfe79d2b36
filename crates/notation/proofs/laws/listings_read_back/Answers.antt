use Rattle.notation.proofs.ListingBack.{reads_back}
use Rattle.notation.proofs.laws.listings_read_back.Goals as goal

pub returns : goal.returns
returns c = reads_back
