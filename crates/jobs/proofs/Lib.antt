mod Once
mod OneByOne
mod Told
mod Following
mod FollowLaws
pub mod Reasons
