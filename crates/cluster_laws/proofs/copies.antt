-- The law on copies: what each kind of event does to what live nodes hold, and where a run begins.
pub mod Facts
pub mod ContentSteps
pub mod TopologySteps
pub mod EmptySteps
pub mod CopySteps
pub mod TransferSteps
pub mod SameChunks
pub mod Requests
pub mod Histories
pub mod Starts
pub mod ProviderSteps
