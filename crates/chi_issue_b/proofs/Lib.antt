mod Beats
mod Tables
