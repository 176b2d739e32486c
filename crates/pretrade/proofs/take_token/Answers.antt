use Rattle.pretrade.proofs.Existing.{existing}
use Rattle.pretrade.proofs.take_token.Goals as goal

pub rate-rate-requires : goal.rate-rate-requires
rate-rate-requires c = search existing

pub bucket_at-bucket-requires : goal.bucket_at-bucket-requires
bucket_at-bucket-requires c = search existing

pub returns : goal.returns
returns c = search existing
