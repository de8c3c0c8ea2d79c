pub mod Claim
pub mod ClaimCuthill
pub mod NoIdle
