mod Finite
mod Put
mod Eight
mod Sets
mod Bits
mod Images
mod Alone
mod Shown
mod Counted
mod DueBytes
mod Lines
mod Plain
mod BegunLines
mod Rows
mod Means
mod Closing
mod Loose
mod Loosened
mod Rewind
mod Moved
mod Leads
mod Prior
mod Comes
mod Grants
mod Given
mod Top
mod Safe
mod Origin
mod Kept
mod Moments
mod Runs
mod Followed
mod Values
mod Larger
mod Refusals
mod TailUnder
mod TailSets
mod TailFollows
mod TailSent
mod TailGiven
mod TailLeft
mod TailMoments
mod TailRuns
mod BegunTaken
mod Counts
mod Over
mod Follow
mod PromptSteps
mod Prompt
mod PromptGiven
mod PromptSafe
mod PromptLogs
pub mod ArrivingRows
pub mod ArrivingSides
pub mod ArrivingMembers
pub mod ArrivingEqual
pub mod ArrivingPlaces
pub mod ArrivingAgents
pub mod ArrivingReceived
pub mod ArrivingGiven
