pub mod Answered
pub mod FormerReads
pub mod Tables
pub mod Texts
